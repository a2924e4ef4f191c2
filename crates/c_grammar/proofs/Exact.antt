-- The machine reads exactly what begins a file.
use Rattle.std.proofs.Common.{◌≡◌, ℕ, ◌<◌, true, false, List, [], ◌∷◌, ◌++◌, Option, Some, None, refl, sym, ◌∙◌, ap, subst, arith, length, take, drop, suc}
use Rattle.std.proofs.lemmas.List.{append-nil, take-append-drop}
use Rattle.std.proofs.Math.Seq.{take-length}
use Rattle.c_grammar.specs.Tokens.{Token}
use Rattle.c_grammar.specs.Derivations.{File}
use Rattle.c_grammar.specs.Spelling.{Spells, Begins}
use Rattle.c_grammar.specs.Machine.{State, at_file, feed, go, start, is_done}
use Rattle.c_grammar.specs.Reading.{SyntaxAt}
use Rattle.c_grammar.proofs.Valid.{Has}
use Rattle.c_grammar.proofs.Complete.{run_file}
use Rattle.c_grammar.proofs.Sound.{read_has}
use Rattle.c_grammar.proofs.Endings.{ending}
use Rattle.c_grammar.proofs.Close.{Ends, go_nil}
use Rattle.c_grammar.proofs.Ended.{ends}

-- reading on
pub go_append : (o : Option State) (xs ys : List Token) → go o (xs ++ ys) ≡ go (go o xs) ys
unfolding go
go_append None [] ys = refl
go_append None (x ∷ xs) ys = refl
go_append (Some s) [] ys = refl
go_append (Some s) (x ∷ xs) ys = go_append (feed s x) xs ys

pub go_none : (ts : List Token) → go None ts ≡ None
unfolding go
go_none [] = refl
go_none (x ∷ xs) = refl

-- a spelled file is read
pub spelled_read : (f : File) (ts : List Token) → Spells f ts → go (Some start) ts ≡ Some (at_file f)
spelled_read f ts h = ap (λ x. go (Some start) x) (sym h.1) ∙ run_file f [] h.0 ∙ go_nil _

-- what is read to the end is spelled
pub read_spelled : (f : File) (ts : List Token) → go (Some start) ts ≡ Some (at_file f) → Spells f ts
read_spelled f ts e = at_end (go (Some start) ts) e (read_has ts)
  where
    at_end : (o : Option State) → o ≡ Some (at_file f) → Has (λ r. ts ++ r) o → Spells f ts
    at_end o e h = let P : Option State → Type 0 = Has (λ r. ts ++ r) in let k : Has (λ r. ts ++ r) (Some (at_file f)) = subst P e h in
        (k.0, sym (k.1 []) ∙ append-nil ts)

-- No list of tokens is spelled by two files.
pub one_file : (f g : File) (ts : List Token) → Spells f ts → Spells g ts → f ≡ g
one_file f g ts hf hg = let e : Some (at_file f) ≡ Some (at_file g) = sym (spelled_read f ts hf) ∙ spelled_read g ts hg in cc

-- what was read begins a file
pub read_begins : (ts : List Token) (s : State) → go (Some start) ts ≡ Some s → Begins ts
read_begins ts s e =
    let h : Ends s (ending s) = ends s in
    (h.0, ending s, read_spelled h.0 (ts ++ ending s) (go_append (Some start) ts (ending s) ∙ ap (λ o. go o (ending s)) e ∙ h.1))

-- what begins a file is read
pub begins_read : (ts : List Token) → Begins ts → go (Some start) ts ≡ None → ⊥
begins_read ts b e =
    let r : go (Some start) (ts ++ b.1) ≡ Some (at_file b.0) = spelled_read b.0 (ts ++ b.1) b.2 in
    let n : go (Some start) (ts ++ b.1) ≡ None = go_append (Some start) ts b.1 ∙ ap (λ o. go o b.1) e ∙ go_none b.1 in
    let bad : None ≡ Some (at_file b.0) = sym n ∙ r in cc

-- A refused token is the first behind the longest prefix that begins a file.
pub refused : (ts : List Token) (n : ℕ) (s : State) → n < length ts → go (Some start) (take n ts) ≡ Some s → go (Some start) (take (suc n) ts) ≡ None → SyntaxAt ts n
refused ts n s lt e no_next = record {
  within = omega arith;
  begins = read_begins (take n ts) s e;
  longest = λ _ b. begins_read (take (suc n) ts) b no_next;
  no_file = λ f h. begins_read (take (suc n) ts) (f, drop (suc n) ts, (h.0, h.1 ∙ sym (take-append-drop (suc n) ts))) no_next;
}

-- At the end no file is there unless the machine is done.
pub unfinished : (ts : List Token) (s : State) → go (Some start) ts ≡ Some s → is_done s ≡ false → SyntaxAt ts (length ts)
unfinished ts s e d = record {
  within = omega arith;
  begins = read_begins _ s (ap (λ x. go (Some start) x) (take-length ts) ∙ e);
  longest = λ lt. absurd (omega arith);
  no_file = λ f h. let q : Some s ≡ Some (at_file f) = sym e ∙ spelled_read f ts h in
      let same : s ≡ at_file f = cc in
      let bad : false ≡ true = sym d ∙ ap is_done same in cc;
}

-- a state that is done stands behind a file
pub done_file : (ts : List Token) (s : State) → go (Some start) ts ≡ Some s → is_done s ≡ true → (f : File) × Spells f ts
done_file ts (at_file f) e d = (f, read_spelled f ts e)
done_file ts _ e d = let bad : false ≡ true = d in cc
