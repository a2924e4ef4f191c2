-- Pieces of pieces.
use Rattle.std.proofs.Common.{◌≡◌, ℕ, zero, suc, ◌+◌, ◌<◌, ◌≤◌, List, [], ◌∷◌, ◌++◌, length, take, drop, refl, sym, ap, ◌∙◌, arith, append_assoc, length-append}
use Rattle.std.proofs.Math.Seq.{take-add, take-append_seam, drop-append_seam}
use Rattle.std.proofs.lemmas.List.{take-append-drop, append_cancel_left, append-nil, drop-drop, take_all}
use Rattle.tso_core.specs.Systems.{runs_of}
use Rattle.tso_core.specs.declared.Step.{Step}
use Rattle.tso_core.specs.Matching.{joined, IsPrefixOf}

-- for each list of qs the pieces that belong to its steps, joined
abbrev pub grouped : List (List Step) → List (List Step) → List (List Step)
grouped [] ps = []
grouped (q ∷ qs) ps = joined (take (length q) ps) ∷ grouped qs (drop (length q) ps)

-- how many steps the first n lists have
abbrev pub steps_in : ℕ → List (List Step) → ℕ
steps_in n qs = length (joined (take n qs))

pub joined-append : (a b : List (List Step)) → joined (a ++ b) ≡ joined a ++ joined b
joined-append [] b = refl
joined-append (p ∷ a) b = ap (λ l. p ++ l) (joined-append a b) ∙ sym (append_assoc p (joined a) (joined b))

pub joined_split : (n : ℕ) (ps : List (List Step)) → joined (take n ps) ++ joined (drop n ps) ≡ joined ps
joined_split n ps = sym (joined-append (take n ps) (drop n ps)) ∙ ap joined (take-append-drop n ps)

pub length-grouped : (qs ps : List (List Step)) → length (grouped qs ps) ≡ length qs
length-grouped [] ps = refl
length-grouped (q ∷ qs) ps = ap suc (length-grouped qs (drop (length q) ps))

pub take_joined : (n : ℕ) (qs : List (List Step)) (xs : List Step) → take (steps_in n qs) (joined qs ++ xs) ≡ joined (take n qs)
take_joined n qs xs =
    ap (λ l. take (steps_in n qs) (l ++ xs)) (sym (joined_split n qs))
    ∙ ap (take (steps_in n qs)) (append_assoc (joined (take n qs)) (joined (drop n qs)) xs)
    ∙ take-append_seam (joined (take n qs)) (joined (drop n qs) ++ xs)

pub drop_joined : (n : ℕ) (qs : List (List Step)) (xs : List Step) → drop (steps_in n qs) (joined qs ++ xs) ≡ joined (drop n qs) ++ xs
drop_joined n qs xs =
    ap (λ l. drop (steps_in n qs) (l ++ xs)) (sym (joined_split n qs))
    ∙ ap (drop (steps_in n qs)) (append_assoc (joined (take n qs)) (joined (drop n qs)) xs)
    ∙ drop-append_seam (joined (take n qs)) (joined (drop n qs) ++ xs)

pub take_grouped : (n : ℕ) (qs ps : List (List Step)) → joined (take n (grouped qs ps)) ≡ joined (take (steps_in n qs) ps)
take_grouped zero qs ps = refl
take_grouped (suc n) [] ps = refl
take_grouped (suc n) (q ∷ qs) ps =
    ap (λ l. joined (take (length q) ps) ++ l) (take_grouped n qs (drop (length q) ps))
    ∙ sym (joined-append (take (length q) ps) (take (steps_in n qs) (drop (length q) ps)))
    ∙ ap joined (sym (take-add (length q) (steps_in n qs) ps))
    ∙ ap (λ k. joined (take k ps)) (sym (length-append q (joined (take n qs))))

pub drop_grouped : (n : ℕ) (qs ps : List (List Step)) → drop n (grouped qs ps) ≡ grouped (drop n qs) (drop (steps_in n qs) ps)
drop_grouped zero qs ps = refl
drop_grouped (suc n) [] ps = refl
drop_grouped (suc n) (q ∷ qs) ps =
    drop_grouped n qs (drop (length q) ps)
    ∙ ap (grouped (drop n qs)) (drop-drop (steps_in n qs) (length q) ps)
    ∙ ap (λ k. grouped (drop n qs) (drop k ps)) (sym (length-append q (joined (take n qs))))

pub joined_grouped : (qs ps : List (List Step)) → joined (grouped qs ps) ≡ joined (take (length (joined qs)) ps)
joined_grouped [] ps = refl
joined_grouped (q ∷ qs) ps =
    ap (λ l. joined (take (length q) ps) ++ l) (joined_grouped qs (drop (length q) ps))
    ∙ sym (joined-append (take (length q) ps) (take (length (joined qs)) (drop (length q) ps)))
    ∙ ap joined (sym (take-add (length q) (length (joined qs)) ps))
    ∙ ap (λ k. joined (take k ps)) (sym (length-append q (joined qs)))

-- the stretch of n lists from m on
pub stretch : (m n : ℕ) (qs : List (List Step)) (xs : List Step) → take (steps_in n (drop m qs)) (drop (steps_in m qs) (joined qs ++ xs)) ≡ joined (take n (drop m qs))
stretch m n qs xs = ap (take (steps_in n (drop m qs))) (drop_joined m qs xs) ∙ take_joined n (drop m qs) xs

pub stretch_grouped : (m n : ℕ) (qs ps : List (List Step)) → joined (take n (drop m (grouped qs ps))) ≡ joined (take (steps_in n (drop m qs)) (drop (steps_in m qs) ps))
stretch_grouped m n qs ps = ap (λ l. joined (take n l)) (drop_grouped m qs ps) ∙ take_grouped n (drop m qs) (drop (steps_in m qs) ps)

pub steps_in-add : (m n : ℕ) (qs : List (List Step)) → steps_in (m + n) qs ≡ steps_in m qs + steps_in n (drop m qs)
steps_in-add m n qs =
    ap (λ l. length (joined l)) (take-add m n qs)
    ∙ ap length (joined-append (take m qs) (take n (drop m qs)))
    ∙ length-append (joined (take m qs)) (joined (take n (drop m qs)))

pub steps_in_most : (n : ℕ) (qs : List (List Step)) (xs : List Step) → steps_in n qs ≤ length (joined qs ++ xs)
steps_in_most n qs xs =
    let a : length (joined qs) ≡ steps_in n qs + length (joined (drop n qs)) = ap length (sym (joined_split n qs)) ∙ length-append (joined (take n qs)) (joined (drop n qs)) in
    omega (arith, a, length-append (joined qs) xs)

-- prefixes
pub IsPrefixOf-refl : {A : Type 0} (xs : List A) → IsPrefixOf xs xs
IsPrefixOf-refl xs = ([], append-nil xs)

pub IsPrefixOf-trans : {A : Type 0} (xs ys zs : List A) → IsPrefixOf xs ys → IsPrefixOf ys zs → IsPrefixOf xs zs
IsPrefixOf-trans xs ys zs h g = (h.0 ++ g.0, sym (append_assoc xs h.0 g.0) ∙ ap (λ l. l ++ g.0) h.1 ∙ g.1)

-- what goes on from a list and stays a prefix of it adds nothing
pub adds_nothing : {A : Type 0} (xs more : List A) → IsPrefixOf (xs ++ more) xs → xs ++ more ≡ xs
adds_nothing {A = A} xs more h = ap (λ l. xs ++ l) (empty more h.0 (append_cancel_left xs (more ++ h.0) [] (sym (append_assoc xs more h.0) ∙ h.1 ∙ sym (append-nil xs)))) ∙ append-nil xs
  where
    empty : (a b : List A) → a ++ b ≡ [] → a ≡ []
    empty [] b e = refl
    empty (x ∷ a) b e = cc

pub joined_grouped_all : (qs ps : List (List Step)) → length ps ≡ length (joined qs) → joined (grouped qs ps) ≡ joined ps
joined_grouped_all qs ps e =
    let le : length ps ≤ length (joined qs) = omega arith in
    joined_grouped qs ps ∙ ap joined (take_all (length (joined qs)) ps le)

-- more steps behind the last piece
abbrev pub attached : List (List Step) → List Step → List (List Step)
attached [] more = []
attached (p ∷ []) more = (p ++ more) ∷ []
attached (p ∷ q ∷ ps) more = p ∷ attached (q ∷ ps) more

pub length-attached : (ps : List (List Step)) (more : List Step) → length (attached ps more) ≡ length ps
length-attached [] more = refl
length-attached (p ∷ []) more = refl
length-attached (p ∷ q ∷ ps) more = ap suc (length-attached (q ∷ ps) more)

pub joined-attached : (ps : List (List Step)) (more : List Step) → 0 < length ps → joined (attached ps more) ≡ joined ps ++ more
joined-attached [] more h = absurd (omega arith)
joined-attached (p ∷ []) more h = append-nil (p ++ more) ∙ ap (λ l. l ++ more) (sym (append-nil p))
joined-attached (p ∷ q ∷ ps) more h =
    let pos : 0 < length (q ∷ ps) = omega arith in
    ap (λ l. p ++ l) (joined-attached (q ∷ ps) more pos) ∙ sym (append_assoc p (joined (q ∷ ps)) more)

pub take-attached : (n : ℕ) (ps : List (List Step)) (more : List Step) → n < length ps → take n (attached ps more) ≡ take n ps
take-attached zero ps more h = refl
take-attached (suc n) [] more h = absurd (omega arith)
take-attached (suc n) (p ∷ []) more h = absurd (omega arith)
take-attached (suc n) (p ∷ q ∷ ps) more h =
    let lt : n < length (q ∷ ps) = omega arith in
    ap (λ l. p ∷ l) (take-attached n (q ∷ ps) more lt)

pub runs_of-append : (i : ℕ) (xs ys : List Step) → runs_of i (xs ++ ys) ≡ runs_of i xs + runs_of i ys
runs_of-append i [] ys = omega arith
runs_of-append i (x ∷ xs) ys = omega (arith, runs_of-append i xs ys)

-- no stretch has fewer runs for it
pub runs-attached : (i m n : ℕ) (ps : List (List Step)) (more : List Step) → runs_of i (joined (take n (drop m ps))) ≤ runs_of i (joined (take n (drop m (attached ps more))))
runs-attached i zero zero ps more = omega arith
runs-attached i (suc m) n [] more = omega arith
runs-attached i zero (suc n) [] more = omega arith
runs-attached i zero (suc n) (p ∷ []) more =
    let rest = joined (take n (drop 0 [])) in
    omega (arith, runs_of-append i p rest, runs_of-append i (p ++ more) rest, runs_of-append i p more)
runs-attached i zero (suc n) (p ∷ q ∷ ps) more =
    omega (arith, runs-attached i zero n (q ∷ ps) more, runs_of-append i p (joined (take n (q ∷ ps))), runs_of-append i p (joined (take n (attached (q ∷ ps) more))))
runs-attached i (suc m) n (p ∷ []) more = omega arith
runs-attached i (suc m) n (p ∷ q ∷ ps) more = runs-attached i m n (q ∷ ps) more
