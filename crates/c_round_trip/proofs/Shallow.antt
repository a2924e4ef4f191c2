-- A file that is not too deep nests no token above the limit, and one that nests none so is not too deep, nor is any front of it.
use Rattle.std.proofs.Common.{◌≡◌, ℕ, zero, suc, ◌≤◌, ◌⊎◌, Bool, true, false, nat_lt, List, [], ◌∷◌, ◌++◌, length, take, drop, get_or, refl, sym, subst, inl, inr, arith}
use Rattle.std.proofs.lemmas.Bool.{ltb-true, ltb-false}
use Rattle.std.proofs.lemmas.List.{take-append-drop, take_all}
use Rattle.c_grammar.specs.Tokens as k
use Rattle.c_grammar.specs.Machine.{at_file}
use Rattle.c_grammar.proofs.Exact.{spelled_read}
use Rattle.c_grammar.proofs.Deep.{machine_deep, nest_length}
use Rattle.c_grammar.specs.Derivations.{File}
use Rattle.c_grammar.specs.Spelling.{Spells}
use Rattle.c_grammar.specs.Nesting.{file_nest, limit, IsDeep, TooDeep}
use Rattle.c_reading.specs.Answers.{IsShallow}
use Rattle.c_round_trip.proofs.Prints.{Low}

low_or_deep_at : (n : ℕ) (ns : List ℕ) (b : Bool) → nat_lt limit n ≡ b → Low limit ns ⊎ IsDeep (length ns) ns → Low limit (n ∷ ns) ⊎ IsDeep (length (n ∷ ns)) (n ∷ ns)
low_or_deep_at n ns true e more = inr (0, omega arith, ltb-true limit n e)
low_or_deep_at n ns false e (inl l) = inl (ltb-false limit n e, l)
low_or_deep_at n ns false e (inr d) = inr (suc d.0, omega (arith, d.1), d.2)

low_or_deep : (ns : List ℕ) → Low limit ns ⊎ IsDeep (length ns) ns
low_or_deep [] = inl tt
low_or_deep (n ∷ ns) = low_or_deep_at n ns (nat_lt limit n) refl (low_or_deep ns)

low_at : (ns : List ℕ) → Low limit ns → (i : ℕ) → get_or ns i 0 ≤ limit
low_at [] l i = omega arith
low_at (n ∷ ns) l zero = l.0
low_at (n ∷ ns) l (suc i) = low_at ns l.1 i

pub low_nests : (f : File) (ts : List k.Token) → Spells f ts → IsShallow ts (length ts) → Low limit (file_nest f [])
low_nests f ts h shallow = by_cases (low_or_deep (file_nest f []))
  where
    by_cases : Low limit (file_nest f []) ⊎ IsDeep (length (file_nest f [])) (file_nest f []) → Low limit (file_nest f [])
    by_cases (inl l) = l
    by_cases (inr d) =
        let read = spelled_read f ts h in
        let long : length (file_nest f []) ≡ length ts = nest_length ts (at_file f) read in
        let deep : TooDeep ts = machine_deep ts (at_file f) read (subst (λ n. IsDeep n (file_nest f [])) long d) in
        absurd (shallow (length ts) (omega arith) (subst (λ us. TooDeep us) (sym (take_all (length ts) ts (omega arith))) deep))

pub shallow_by : (f : File) (ts : List k.Token) → Spells f ts → Low limit (file_nest f []) → (m : ℕ) → TooDeep (take m ts) → ⊥
shallow_by f ts h l m deep =
    let whole : Spells f (take m ts ++ drop m ts) = subst (λ us. Spells f us) (sym (take-append-drop m ts)) h in
    let d = deep.1 f (drop m ts) whole in
    let low : get_or (file_nest f []) d.0 0 ≤ limit = low_at (file_nest f []) l d.0 in
    omega (arith, low, d.2)
