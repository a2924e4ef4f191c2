-- The parts of a declarator, which the code keeps from the innermost on.
use Rattle.std.proofs.Common.{◌≡◌, ℕ, suc, ◌+◌, List, [], ◌∷◌, ◌++◌, map, replicate, ap, ◌∙◌, arith}
use Rattle.std.proofs.lemmas.List.{reverse-append}
use Rattle.clight_types.specs.declared.declarators.Part as P
use Rattle.clight_types.specs.declared.declarators.Part.TheVariants as part
use Rattle.clight_types.specs.BuiltOf.{part_of}
use Rattle.clight_types.specs.Declarators.{PointerPart}
use Rattle.clight_specifiers.specs.TypingOf.{parts_of}

pub parts_pushed : (parts : List P.Part) (p : P.Part) → parts_of (parts ++ p ∷ []) ≡ part_of p ∷ parts_of parts
parts_pushed parts p = ap (map part_of) (reverse-append parts (p ∷ []))

pub pointers_more : (parts first : List P.Part) (n : ℕ) → parts_of parts ≡ replicate n PointerPart ++ parts_of first → parts_of (parts ++ part.Pointer ∷ []) ≡ replicate (n + 1) PointerPart ++ parts_of first
pointers_more parts first n h =
    let next : suc n ≡ n + 1 = omega arith in
    parts_pushed parts part.Pointer ∙ ap (λ ps. PointerPart ∷ ps) h ∙ ap (λ k. replicate k PointerPart ++ parts_of first) next
