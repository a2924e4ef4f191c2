use Rattle.std.proofs.Common.{◌≡◌, ◌+◌, ◌%◌, ap, ◌∙◌, [], ◌∷◌, ◌++◌, length, length-append, arith}
use Rattle.x86_memory.proofs.BytesLaws.{OnOk-map}
use Rattle.x86_lang.specs.Assembly.{data_start}
use Rattle.x86_machine.specs.X86Tso.{data_bytes}
use Rattle.x86_machine.proofs.DataBytes.{half_bytes}
use Rattle.x86_machine.proofs.data.add_half.Goals as goal

pub returns : goal.returns
returns c = λ before e h.
    let more = before ++ c.args.half % 256 ∷ [] in
    let at : data_start + length more ≡ c.args.at + 1 = omega (arith, e, length-append before (c.args.half % 256 ∷ [])) in
    OnOk-map c.add_byte-2.result (λ q. q ∙ ap data_bytes (half_bytes before c.args.half c.requires.half)) (c.add_byte-2.ensures more at (c.in_ok-add_byte.ensures before e h))
