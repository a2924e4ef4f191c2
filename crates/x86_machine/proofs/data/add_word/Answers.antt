use Rattle.std.proofs.Common.{◌≡◌, ◌+◌, ◌%◌, ap, ◌∙◌, ◌++◌, length, length-append, arith}
use Rattle.x86_memory.proofs.BytesLaws.{OnOk-map}
use Rattle.x86_lang.specs.Assembly.{data_start, little_endian}
use Rattle.x86_machine.specs.X86Tso.{data_bytes}
use Rattle.x86_machine.proofs.DataBytes.{word_bytes}
use Rattle.x86_machine.proofs.data.add_word.Goals as goal

pub returns : goal.returns
returns c = λ before e h.
    let more = before ++ little_endian 2 (c.args.word % 65536) in
    let at : data_start + length more ≡ c.args.at + 2 = omega (arith, e, length-append before (little_endian 2 (c.args.word % 65536))) in
    OnOk-map c.add_half-2.result (λ q. q ∙ ap data_bytes (word_bytes before c.args.word)) (c.add_half-2.ensures more at (c.in_ok-add_half.ensures before e h))
