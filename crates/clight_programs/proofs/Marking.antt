-- The marks of parameters and locals, and their numbers in one pass.
use Rattle.std.proofs.Common.{◌≡◌, ℕ, suc, ◌+◌, ◌<◌, ◌≤◌, Bool, true, false, not, List, [], ◌∷◌, ◌++◌, length, map, get_or, drop, take, Option, Some, None, refl, sym, ap, subst, ◌∙◌, drop-cons, append_assoc, arith}
use Rattle.std.specs.Prelude.{slice_get, slice_set}
use Rattle.std.proofs.lemmas.List.{take_more, take_all}
use Rattle.clight_types.specs.Types.{Types, is_scalar}
use Rattle.clight_placing.specs.declared.inner.Location.{Location}
use Rattle.clight_placing.specs.declared.inner.Location.TheVariants as at
use Rattle.clight_placing.specs.InnerOf.{location_of}
use Rattle.clight_placing.specs.Placing as p
use Rattle.clight_programs.specs.Locals.{marked, located}
use Rattle.clight_programs.proofs.Walks.{past_end, append_end, map_push}

at_number : (list : List ℕ) (i : ℕ) → i < length list → drop i list ≡ get_or list i 0 ∷ drop (i + 1) list
at_number list i within = (let next : suc i ≡ i + 1 = omega arith in drop-cons list i 0 within ∙ ap (λ k. get_or list i 0 ∷ drop k list) next)

at_mark : (list : List Bool) (i : ℕ) → i < length list → drop i list ≡ get_or list i false ∷ drop (i + 1) list
at_mark list i within = (let next : suc i ≡ i + 1 = omega arith in drop-cons list i false within ∙ ap (λ k. get_or list i false ∷ drop k list) next)

-- ## Those whose address is taken

pub marked_next : (marks new all : List Bool) (list : List ℕ) (i : ℕ) → i < length list → new ≡ slice_set marks (get_or list i 0) true → marked marks (drop i list) ≡ all → marked new (drop (i + 1) list) ≡ all
marked_next marks new all list i within step known = ap (λ m. marked m (drop (i + 1) list)) step ∙ sym (ap (marked marks) (at_number list i within)) ∙ known

pub marked_end : (marks all : List Bool) (list : List ℕ) (i : ℕ) → length list ≤ i → marked marks (drop i list) ≡ all → marks ≡ all
marked_end marks all list i past known = sym (ap (marked marks) (past_end list i past)) ∙ known

-- ## Those that are no scalars

pub scalars_next : (types : Types) (marks new : List Bool) (list : List ℕ) (i : ℕ) → i < length list → new ≡ marks ++ not (is_scalar types (get_or list i 0)) ∷ [] → marks ≡ map (λ t. not (is_scalar types t)) (take i list) → new ≡ map (λ t. not (is_scalar types t)) (take (i + 1) list)
scalars_next types marks new list i within step known =
    step ∙ ap (λ m. m ++ not (is_scalar types (get_or list i 0)) ∷ []) known
    ∙ sym (map_push (λ t. not (is_scalar types t)) (take i list) (get_or list i 0))
    ∙ sym (ap (map (λ t. not (is_scalar types t))) (take_more list i 0 within))

pub scalars_end : (types : Types) (marks : List Bool) (list : List ℕ) (i : ℕ) → length list ≤ i → marks ≡ map (λ t. not (is_scalar types t)) (take i list) → marks ≡ map (λ t. not (is_scalar types t)) list
scalars_end types marks list i past known = known ∙ ap (map (λ t. not (is_scalar types t))) (take_all i list past)

-- ## Their numbers

pub memory_put : (now new : List Location) (temps memory : ℕ) (b : Bool) → b ≡ true → new ≡ now ++ at.Memory memory ∷ [] → map location_of new ≡ map location_of now ++ located temps memory (b ∷ [])
memory_put now new temps memory b is_set step =
    ap (map location_of) step ∙ map_push location_of now (at.Memory memory)
    ∙ sym (ap (λ b. map location_of now ++ located temps memory (b ∷ [])) is_set)

pub temp_put : (now new : List Location) (temps memory : ℕ) (b : Bool) → b ≡ false → new ≡ now ++ at.Temp temps ∷ [] → map location_of new ≡ map location_of now ++ located temps memory (b ∷ [])
temp_put now new temps memory b is_clear step =
    ap (map location_of) step ∙ map_push location_of now (at.Temp temps)
    ∙ sym (ap (λ b. map location_of now ++ located temps memory (b ∷ [])) is_clear)

located_next : (now new : List Location) (temps memory t m : ℕ) (marks : List Bool) (i : ℕ) (all : List p.Location) → i < length marks
    → located temps memory (get_or marks i false ∷ drop (i + 1) marks) ≡ located temps memory (get_or marks i false ∷ []) ++ located t m (drop (i + 1) marks)
    → map location_of new ≡ map location_of now ++ located temps memory (get_or marks i false ∷ [])
    → map location_of now ++ located temps memory (drop i marks) ≡ all → map location_of new ++ located t m (drop (i + 1) marks) ≡ all
located_next now new temps memory t m marks i all within split step known =
    ap (λ l. l ++ located t m (drop (i + 1) marks)) step
    ∙ append_assoc (map location_of now) (located temps memory (get_or marks i false ∷ [])) (located t m (drop (i + 1) marks))
    ∙ sym (ap (λ l. map location_of now ++ l) split)
    ∙ sym (ap (λ l. map location_of now ++ located temps memory l) (at_mark marks i within))
    ∙ known

pub located_memory : (now new : List Location) (temps memory t m : ℕ) (marks : List Bool) (i : ℕ) (all : List p.Location) → i < length marks → get_or marks i false ≡ true → t ≡ temps → m ≡ memory + 1
    → map location_of new ≡ map location_of now ++ located temps memory (get_or marks i false ∷ [])
    → map location_of now ++ located temps memory (drop i marks) ≡ all → map location_of new ++ located t m (drop (i + 1) marks) ≡ all
located_memory now new temps memory t m marks i all within is_set same more step known =
    located_next now new temps memory t m marks i all within
    (ap (λ b. located temps memory (b ∷ drop (i + 1) marks)) is_set
    ∙ ap (λ k. p.InMemory memory ∷ located temps k (drop (i + 1) marks)) (sym more)
    ∙ ap (λ k. p.InMemory memory ∷ located k m (drop (i + 1) marks)) (sym same)
    ∙ sym (ap (λ b. located temps memory (b ∷ []) ++ located t m (drop (i + 1) marks)) is_set))
    step known

pub located_temp : (now new : List Location) (temps memory t m : ℕ) (marks : List Bool) (i : ℕ) (all : List p.Location) → i < length marks → get_or marks i false ≡ false → t ≡ temps + 1 → m ≡ memory
    → map location_of new ≡ map location_of now ++ located temps memory (get_or marks i false ∷ [])
    → map location_of now ++ located temps memory (drop i marks) ≡ all → map location_of new ++ located t m (drop (i + 1) marks) ≡ all
located_temp now new temps memory t m marks i all within is_clear more same step known =
    located_next now new temps memory t m marks i all within
    (ap (λ b. located temps memory (b ∷ drop (i + 1) marks)) is_clear
    ∙ ap (λ k. p.InTemp temps ∷ located k memory (drop (i + 1) marks)) (sym more)
    ∙ ap (λ k. p.InTemp temps ∷ located t k (drop (i + 1) marks)) (sym same)
    ∙ sym (ap (λ b. located temps memory (b ∷ []) ++ located t m (drop (i + 1) marks)) is_clear))
    step known

pub located_end : (now : List Location) (temps memory : ℕ) (marks : List Bool) (i : ℕ) (all : List p.Location) → length marks ≤ i → map location_of now ++ located temps memory (drop i marks) ≡ all → map location_of now ≡ all
located_end now temps memory marks i all past known =
    sym (append_end (map location_of now))
    ∙ sym (ap (λ l. map location_of now ++ located temps memory l) (past_end marks i past))
    ∙ known
