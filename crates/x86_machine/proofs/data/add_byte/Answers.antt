use Rattle.std.proofs.Common.{ap, ◌∙◌}
use Rattle.x86_memory.proofs.BytesLaws.{OnOk-map}
use Rattle.x86_memory.specs.Bytes.{Bytes, written}
use Rattle.x86_memory.specs.declared.buffer.Write.{Write}
use Rattle.x86_steps.specs.declared.access.Size.TheVariants as size
use Rattle.x86_machine.proofs.DataBytes.{data_more}
use Rattle.x86_machine.proofs.data.add_byte.Goals as goal

pub returns : goal.returns
returns c = λ before e h. OnOk-map c.put.result (λ q. q ∙ (ap (λ (b : Bytes). written b (record { address = c.args.at; size = size.Byte; value = c.args.byte })) h ∙ data_more before c.args.at c.args.byte e c.requires.byte)) c.put.ensures.ok
