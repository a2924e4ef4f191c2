-- The machine knows the least nesting of what it has read.
use Rattle.std.proofs.Common.{◌≡◌, ℕ, ◌<◌, ◌≤◌, List, [], ◌∷◌, ◌++◌, Option, Some, None, refl, sym, ◌∙◌, ap, subst, arith, length, take, drop, get_or, suc, zero}
use Rattle.std.proofs.lemmas.List.{append-nil, append_assoc, length-append, length-take-le, take-append-drop}
use Rattle.c_grammar.specs.Tokens.{Token}
use Rattle.c_grammar.specs.Derivations.{File}
use Rattle.c_grammar.specs.Spelling.{Spells, Begins}
use Rattle.c_grammar.specs.Machine.{State, at_file, go, start}
use Rattle.c_grammar.specs.Nesting.{file_nest, IsDeep, TooDeep, Least, TooDeepAt}
use Rattle.c_grammar.proofs.Valid.{StateOk, Has}
use Rattle.c_grammar.proofs.Sound.{read_has}
use Rattle.c_grammar.proofs.Endings.{ending}
use Rattle.c_grammar.proofs.Close.{Ends}
use Rattle.c_grammar.proofs.Ended.{ends}
use Rattle.c_grammar.proofs.Exact.{go_append, spelled_read, read_spelled, read_begins, begins_read}
use Rattle.c_grammar.proofs.Nests.{state_nest}
use Rattle.c_grammar.proofs.Long.{state_long}
use Rattle.c_grammar.proofs.Below.{Le, le_list, Pre, le_at, pre_at}
use Rattle.c_grammar.proofs.Rises.{Rises}
use Rattle.c_grammar.proofs.FeedRises.{go_rises}

read_ok : (ts : List Token) (s : State) → go (Some start) ts ≡ Some s → StateOk s
read_ok ts s e = let P : Option State → Type 0 = Has (λ r. ts ++ r) in let k : Has (λ r. ts ++ r) (Some s) = subst P e (read_has ts) in k.0

-- whatever file goes on from what was read, it nests each token at least as deep
pub nests_later : (ts more : List Token) (s : State) (f : File) → go (Some start) ts ≡ Some s → Spells f (ts ++ more) → Le (state_nest s []) (file_nest f [])
nests_later ts more s f e h =
    let r : go (Some s) more ≡ Some (at_file f) = ap (λ o. go o more) (sym e) ∙ sym (go_append (Some start) ts more) ∙ spelled_read f (ts ++ more) h in
    let P : Option State → Type 0 = Rises (state_nest s []) in
    subst P r (go_rises (state_nest s []) (Some s) more (read_ok ts s e) (le_list (state_nest s [])))

-- each token that was read has its nesting
pub nest_length : (ts : List Token) (s : State) → go (Some start) ts ≡ Some s → length (state_nest s []) ≡ length ts
nest_length ts s e =
    let P : Option State → Type 0 = Has (λ r. ts ++ r) in
    let k : Has (λ r. ts ++ r) (Some s) = subst P e (read_has ts) in
    state_long s [] [] refl ∙ ap length (sym (k.1 []) ∙ append-nil ts)

-- the ending of a state, read from the begin
ending_spells : (ts : List Token) (s : State) → go (Some start) ts ≡ Some s → (f : File) × Spells f (ts ++ ending s) × Pre (state_nest s []) (file_nest f [])
ending_spells ts s e =
    let h : Ends s (ending s) = ends s in
    (h.0, read_spelled h.0 (ts ++ ending s) (go_append (Some start) ts (ending s) ∙ ap (λ o. go o (ending s)) e ∙ h.1), h.2)

-- What the machine has nested too deep, each file does.
pub machine_deep : (ts : List Token) (s : State) → go (Some start) ts ≡ Some s → IsDeep (length ts) (state_nest s []) → TooDeep ts
machine_deep ts s e d = (
  read_begins ts s e,
  λ f more h.
      let up : get_or (state_nest s []) d.0 0 ≤ get_or (file_nest f []) d.0 0 = le_at (state_nest s []) (file_nest f []) d.0 (nests_later ts more s f e h) in
      (d.0, d.1, omega (arith, up, d.2)),
)

-- What each file nests too deep, the machine has: some file nests what was read no deeper than it must.
pub deep_machine : (ts : List Token) (s : State) → go (Some start) ts ≡ Some s → TooDeep ts → IsDeep (length ts) (state_nest s [])
deep_machine ts s e deep =
    let h : (f : File) × Spells f (ts ++ ending s) × Pre (state_nest s []) (file_nest f []) = ending_spells ts s e in
    let d : IsDeep (length ts) (file_nest h.0 []) = deep.1 h.0 (ending s) h.1 in
    let len : length (state_nest s []) ≡ length ts = nest_length ts s e in
    let same : get_or (state_nest s []) d.0 0 ≡ get_or (file_nest h.0 []) d.0 0 = pre_at (state_nest s []) (file_nest h.0 []) d.0 h.2 (omega (arith, d.1, len)) in
    (d.0, d.1, omega (arith, same, d.2))

-- what begins a file is read to a state
some_state : (ts : List Token) (o : Option State) → go (Some start) ts ≡ o → Begins ts → (s : State) × (go (Some start) ts ≡ Some s)
some_state ts None e b = absurd (begins_read ts b e)
some_state ts (Some s) e b = (s, e)

-- Of the files that a prefix begins, one nests each of its tokens least.
pub least : (ts : List Token) → Begins ts → Least ts
least ts b =
    let q : (s : State) × (go (Some start) ts ≡ Some s) = some_state ts (go (Some start) ts) refl b in
    let h : (f : File) × Spells f (ts ++ ending q.0) × Pre (state_nest q.0 []) (file_nest f []) = ending_spells ts q.0 q.1 in (
      h.0,
      ending q.0,
      h.1,
      λ g rest sp i lt.
          let up : get_or (state_nest q.0 []) i 0 ≤ get_or (file_nest g []) i 0 = le_at (state_nest q.0 []) (file_nest g []) i (nests_later ts rest q.0 g q.1 sp) in
          let len : length (state_nest q.0 []) ≡ length ts = nest_length ts q.0 q.1 in
          let same : get_or (state_nest q.0 []) i 0 ≡ get_or (file_nest h.0 []) i 0 = pre_at (state_nest q.0 []) (file_nest h.0 []) i h.2 (omega (arith, lt, len)) in
          omega (arith, up, same),
    )

-- ## The place of the token that nests too deep

take_take : (m n : ℕ) (xs : List Token) → m ≤ n → take m (take n xs) ≡ take m xs
take_take zero n xs h = refl
take_take (suc m) zero xs h = absurd (omega arith)
take_take (suc m) (suc n) [] h = refl
take_take (suc m) (suc n) (x ∷ xs) h = ap (λ ys. x ∷ ys) (take_take m n xs (omega arith))

-- more tokens are no less deep
deep_longer : (xs ys : List Token) → Begins (xs ++ ys) → TooDeep xs → TooDeep (xs ++ ys)
deep_longer xs ys b deep = (
  b,
  λ f more h.
      let d : IsDeep (length xs) (file_nest f []) = deep.1 f (ys ++ more) (h.0, h.1 ∙ append_assoc xs ys more) in
      (d.0, omega (arith, d.1, length-append xs ys), d.2),
)

-- Where the machine first has nested too deep is the place.
pub deep_at : (ts : List Token) (n : ℕ) (s s' : State) → n < length ts → go (Some start) (take n ts) ≡ Some s → (IsDeep n (state_nest s []) → ⊥)
    → go (Some start) (take (suc n) ts) ≡ Some s' → IsDeep (suc n) (state_nest s' []) → TooDeepAt ts n
deep_at ts n s s' lt e shallow e' deep = record {
  within = lt;
  deep =
      let len : length (take (suc n) ts) ≡ suc n = length-take-le (suc n) ts (omega arith) in
      machine_deep (take (suc n) ts) s' e' (deep.0, omega (arith, deep.1, len), deep.2);
  shortest = λ m le d.
      let len : length (take n ts) ≡ n = length-take-le n ts (omega arith) in
      let cut : take m (take n ts) ++ drop m (take n ts) ≡ take n ts = take-append-drop m (take n ts) in
      let whole : take m ts ++ drop m (take n ts) ≡ take n ts = ap (λ xs. xs ++ drop m (take n ts)) (sym (take_take m n ts le)) ∙ cut in
      let here : TooDeep (take m ts ++ drop m (take n ts)) =
      deep_longer (take m ts) (drop m (take n ts)) (subst Begins (sym whole) (read_begins (take n ts) s e)) d in
      let q : IsDeep (length (take n ts)) (state_nest s []) = deep_machine (take n ts) s e (subst TooDeep whole here) in
      shallow (q.0, omega (arith, q.1, len), q.2);
}
