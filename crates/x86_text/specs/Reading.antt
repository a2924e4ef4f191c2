-- What `read_asm` answers.
use Rattle.std.specs.Prelude.{◌≡◌, ◌⊎◌, ℕ, List, Result, IfOk, IfErr}
use Rattle.x86_lang.specs.declared.assembly.Parts.{Parts}
use Rattle.x86_text.specs.declared.reading.ReadAsmRefusal.{ReadAsmRefusal}
use Rattle.x86_text.specs.declared.reading.ReadAsmRefusal.TheVariants.{BadText, NoMemory}
use Rattle.x86_text.specs.Bad.{IsBadText}

-- a text is refused at its first bad line
abbrev pub IsRefused : List ℕ → ReadAsmRefusal → Type 0
IsRefused text (BadText n) = IsBadText text n
IsRefused text NoMemory = Unit {0}

-- the answer is this assembly, where there is memory
abbrev pub ReadsAs : Parts → Result Parts ReadAsmRefusal → Type 0
ReadsAs a r = IfOk r (λ b. b ≡ a) × IfErr r (λ e. e ≡ NoMemory)

-- the answer is that this line is bad, where there is memory
abbrev pub RefusesAt : ℕ → Result Parts ReadAsmRefusal → Type 0
RefusesAt n r = IfOk r (λ b. ⊥) × IfErr r (λ e. (e ≡ BadText n) ⊎ (e ≡ NoMemory))
