-- The reader's answers: a file's tree, the place of a syntax fault, the place of a token that nests too deep.
use Rattle.std.proofs.Common.{◌≡◌, ℕ, ◌<◌, ◌≤◌, Bool, true, false, nat_lt, List, [], ◌∷◌, Option, Some, None, length, suc, max, take, refl, sym, ◌∙◌, ap, arith, get_or, zero}
use Rattle.c_reading.proofs.Feed.{read_code}
use Rattle.c_reading.proofs.States.{state_knows}
use Rattle.c_reading.proofs.Built.{file_trees}
use Rattle.c_reading.proofs.Erase.{reader_of, coded}
use Rattle.c_reading.proofs.Heights.{cap, highest}
use Rattle.c_grammar.specs.Derivations.{File}
use Rattle.c_grammar.specs.Spelling.{Spells}
use Rattle.c_grammar.specs.Machine.{State}
use Rattle.c_tree.specs.Reading.{file_tree}
use Rattle.c_grammar.specs.Reading.{SyntaxAt}
use Rattle.c_grammar.specs.Nesting.{limit, IsDeep, TooDeep, TooDeepAt}
use Rattle.c_grammar.proofs.Nests.{state_nest}
use Rattle.c_grammar.proofs.Exact.{read_spelled, refused, unfinished}
use Rattle.c_grammar.proofs.Deep.{nest_length, deep_machine, deep_at}
use Rattle.c_grammar.specs.Tokens.{Token}
use Rattle.std.proofs.lemmas.Bool.{ltb-true, ltb-false}
use Rattle.std.proofs.lemmas.List.{length-take-le}
use Rattle.c_grammar.specs.Machine as M
use Rattle.c_reading.specs.Code as C

-- what the reader holds, the machine of the grammar holds
found : (o : Option State) (r : C.Reader) → coded o ≡ Some r → (s : State) × (o ≡ Some s) × (reader_of s ≡ r)
found None r h = let bad : None ≡ Some r = h in cc
found (Some s) r h = (s, refl, let q : Some (reader_of s) ≡ Some r = h in cc)

reached : (ts : List Token) (r : C.Reader) → C.read_on (Some C.start_code) ts ≡ Some r → (s : State) × (M.go (Some M.start) ts ≡ Some s) × (reader_of s ≡ r)
reached ts r h = found (M.go (Some M.start) ts) r (read_code (Some M.start) ts ∙ h)

none_of : (o : Option State) → coded o ≡ None → o ≡ None
none_of None h = refl
none_of (Some s) h = let bad : Some (reader_of s) ≡ None = h in cc

stopped : (ts : List Token) → C.read_on (Some C.start_code) ts ≡ None → M.go (Some M.start) ts ≡ None
stopped ts h = none_of _ (read_code (Some M.start) ts ∙ h)

-- A refused token is the place of the syntax fault.
pub refused_place : (ts : List Token) (n : ℕ) (r : C.Reader) → n < length ts → C.read_on (Some C.start_code) (take n ts) ≡ Some r → C.read_on (Some C.start_code) (take (suc n) ts) ≡ None → SyntaxAt ts n
refused_place ts n r lt e no_next =
    let h : (s : State) × (M.go (Some M.start) (take n ts) ≡ Some s) × (reader_of s ≡ r) = reached (take n ts) r e in
    refused ts n h.0 lt h.1 (stopped (take (suc n) ts) no_next)

-- a reader in a file stands behind a file
at_file_end : (s : State) → C.is_in_file (reader_of s).mode ≡ M.is_done s
at_file_end (M.at_file f) = refl
at_file_end _ = refl

-- The tokens end before the file does.
pub unfinished_place : (ts : List Token) (r : C.Reader) → C.read_on (Some C.start_code) ts ≡ Some r → C.is_in_file r.mode ≡ false → SyntaxAt ts (length ts)
unfinished_place ts r e d =
    let h : (s : State) × (M.go (Some M.start) ts ≡ Some s) × (reader_of s ≡ r) = reached ts r e in
    unfinished ts h.0 h.1 (sym (at_file_end h.0) ∙ ap (λ x. C.is_in_file x.mode) h.2 ∙ d)

-- the file that a done machine has read, and its tree
done_tree : (ts : List Token) (s : State) (r : C.Reader) → M.go (Some M.start) ts ≡ Some s → reader_of s ≡ r → M.is_done s ≡ true → (f : File) × Spells f ts × (C.file_trees r ≡ file_tree f)
done_tree ts (M.at_file f) r e g d = (f, read_spelled f ts e, ap C.file_trees (sym g) ∙ file_trees f)
done_tree ts _ r e g d = let bad : false ≡ true = d in cc

-- The tokens are a file, and the reader has its tree.
pub whole_file : (ts : List Token) (r : C.Reader) → C.read_on (Some C.start_code) ts ≡ Some r → C.is_in_file r.mode ≡ true → (f : File) × Spells f ts × (C.file_trees r ≡ file_tree f)
whole_file ts r e d =
    let h : (s : State) × (M.go (Some M.start) ts ≡ Some s) × (reader_of s ≡ r) = reached ts r e in
    done_tree ts h.0 r h.1 h.2 (sym (at_file_end h.0) ∙ ap (λ x. C.is_in_file x.mode) h.2 ∙ d)

-- ## Nesting

-- some nesting above the limit
deep_first : (n : ℕ) (ns : List ℕ) (b : Bool) → nat_lt limit n ≡ b → limit < max n (highest ns) → (limit < highest ns → IsDeep (length ns) ns) → IsDeep (suc (length ns)) (n ∷ ns)
deep_first n ns true e h later = (0, omega arith, ltb-true limit n e)
deep_first n ns false e h later =
    let low : n ≤ limit = ltb-false limit n e in
    let d : IsDeep (length ns) ns = later (omega arith) in
    (suc d.0, omega (arith, d.1), d.2)

deep_some : (ns : List ℕ) → limit < highest ns → IsDeep (length ns) ns
deep_some [] h = absurd (omega arith)
deep_some (n ∷ ns) h = deep_first n ns (nat_lt limit n) refl h (deep_some ns)

-- and the other way round
deep_highest : (n : ℕ) (ns : List ℕ) (i : ℕ) → limit < get_or ns i 0 → limit < highest ns
deep_highest n [] i h = absurd (omega arith)
deep_highest n (x ∷ ns) zero h = omega arith
deep_highest n (x ∷ ns) (suc i) h = let d : limit < highest ns = deep_highest n ns i h in omega (arith, d)

over_cap : (n d : ℕ) → cap n ≡ d → limit < d → limit < n
over_cap n d e h = omega arith

under_cap : (n d : ℕ) → cap n ≡ d → limit < n → limit < d
under_cap n d e h = omega arith

-- what the reader has nested too deep, the machine has
reader_deep : (ts : List Token) (s : State) (r : C.Reader) → M.go (Some M.start) ts ≡ Some s → reader_of s ≡ r → limit < C.deepest r → IsDeep (length ts) (state_nest s [])
reader_deep ts s r e g h =
    let known : cap (highest (state_nest s [])) ≡ C.deepest r = state_knows s ∙ ap C.deepest g in
    let d : IsDeep (length (state_nest s [])) (state_nest s []) = deep_some (state_nest s []) (over_cap _ _ known h) in
    (d.0, omega (arith, d.1, nest_length ts s e), d.2)

reader_shallow : (ts : List Token) (s : State) (r : C.Reader) (n : ℕ) → reader_of s ≡ r → C.deepest r ≤ limit → IsDeep n (state_nest s []) → ⊥
reader_shallow ts s r n g h d =
    let known : cap (highest (state_nest s [])) ≡ C.deepest r = state_knows s ∙ ap C.deepest g in
    let up : limit < C.deepest r = under_cap _ _ known (deep_highest n (state_nest s []) d.0 d.2) in
    omega (arith, up, h)

-- The first token with which the reader is too deep is the place.
pub deep_place : (ts : List Token) (n : ℕ) (r r' : C.Reader) → n < length ts → C.read_on (Some C.start_code) (take n ts) ≡ Some r → C.deepest r ≤ limit
    → C.read_on (Some C.start_code) (take (suc n) ts) ≡ Some r' → limit < C.deepest r' → TooDeepAt ts n
deep_place ts n r r' lt e low e' high =
    let h : (s : State) × (M.go (Some M.start) (take n ts) ≡ Some s) × (reader_of s ≡ r) = reached (take n ts) r e in
    let k : (s : State) × (M.go (Some M.start) (take (suc n) ts) ≡ Some s) × (reader_of s ≡ r') = reached (take (suc n) ts) r' e' in
    let len : length (take (suc n) ts) ≡ suc n = length-take-le (suc n) ts (omega arith) in
    let d : IsDeep (length (take (suc n) ts)) (state_nest k.0 []) = reader_deep (take (suc n) ts) k.0 r' k.1 k.2 high in
    deep_at ts n h.0 k.0 lt h.1 (reader_shallow (take n ts) h.0 r n h.2 low) k.1 (d.0, omega (arith, d.1, len), d.2)

-- Tokens that leave the reader shallow are not too deep.
pub shallow_tokens : (ts : List Token) (r : C.Reader) → C.read_on (Some C.start_code) ts ≡ Some r → C.deepest r ≤ limit → TooDeep ts → ⊥
shallow_tokens ts r e low deep =
    let h : (s : State) × (M.go (Some M.start) ts ≡ Some s) × (reader_of s ≡ r) = reached ts r e in
    reader_shallow ts h.0 r (length ts) h.2 low (deep_machine ts h.0 h.1 deep)
