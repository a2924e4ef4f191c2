use Rattle.std.proofs.Common.{refl, ◌∙◌, sym, ap, ◌≡◌, true, take, length, replicate, ◌-◌, if◌then◌else◌, Some, get_or}
use Rattle.std.proofs.lemmas.List.{take_at}
use Rattle.tso_words.specs.Words.{chunk_size, bytes_of}
use Rattle.tso_words.specs.declared.value.Cell.TheVariants.{Blank}
use Rattle.tso_memory.specs.Memory.{is_right, is_in}
use Rattle.tso_memory.proofs.KeptMemory.{kept, memory_of-put, length-bytes_of}
use Rattle.tso_memory.proofs.memory.Memory.put.Goals as goal

pub returns-clause-ok : goal.returns-clause-ok
returns-clause-ok c =
    let right : is_right c.args.self.now.objects c.args.chunk c.args.addr ≡ true = sym c.is_right.ensures ∙ c.if-not-is_right.false in
    let low : take c.size_of_chunk-size.result c.bytes_of.result ≡ bytes_of c.args.chunk c.args.val = rw (c.size_of_chunk-size.ensures, c.bytes_of.ensures) (take_at (bytes_of c.args.chunk c.args.val) (replicate (4 - chunk_size c.args.chunk) Blank) (chunk_size c.args.chunk) (length-bytes_of c.args.chunk c.args.val)) in
    rw (← c.self.view_is) (memory_of-put c.args.chunk c.in-Word.x c.args.addr c.args.val (kept c.self.inside.objects.items c.self.inside.zeroed.items c.self.inside.pages) (kept c.self.inside.objects.items c.self.inside.zeroed.items c.set_all.new.self) (take c.size_of_chunk-size.result c.bytes_of.result) c.in-Word.is (rw (← c.self.view_is) at right) low refl refl (λ y. c.set_all.ensures y ∙ ap (λ z. if is_in c.in-Word.x (length (take c.size_of_chunk-size.result c.bytes_of.result)) y then Some (get_or (take c.size_of_chunk-size.result c.bytes_of.result) (y - c.in-Word.x) Blank) else z) (c.open.ensures.same y)))
