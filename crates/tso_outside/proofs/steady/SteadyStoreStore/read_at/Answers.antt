use Rattle.std.proofs.Common.{◌∙◌, ap, drop}
use Rattle.tso_outside.specs.Steady.{bytes_in}
use Rattle.tso_outside.proofs.Held.{reads_bytes, none_offered}
use Rattle.tso_outside.proofs.steady.SteadyStoreStore.read_at.Goals as goal

pub returns-clause-gives : goal.returns-clause-gives
returns-clause-gives c =
    reads_bytes (bytes_in c.args.self.now.files.now c.args.name.now) c.copy_front.new.into c.rest-source.result.now c.args.from c.copy_front.result (c.rest-source.ensures ∙ ap (drop c.args.from) c.bytes_of.ensures) c.copy_front.ensures.front (none_offered c.copy_front.new.into c.rest-source.result.now c.copy_front.result c.copy_front.ensures.count)
