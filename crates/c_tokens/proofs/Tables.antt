-- Tests of every word of a table, and the words of a table that begin a text.
use Rattle.std.proofs.Common.{◌≡◌, ℕ, ◌+◌, ◌≤◌, List, [], ◌∷◌, ◌++◌, length, take, drop, refl, sym, ◌∙◌, ap, Option, Some, None, Bool, true, false, cond, inl, inr, arith, length-append}
use Rattle.std.specs.Prelude.{◌&&◌, nat_le, bytes_eq}
use Rattle.std.proofs.lemmas.List.{take-append-drop, take_at, drop_at}
use Rattle.std.proofs.lemmas.Bool.{leb-true}
use Rattle.std.proofs.lemmas.Slice.Eq.{bytes_eq-Decides}
use Rattle.c_tokens.specs.Lexemes.{Bytes, AllOf, IsAmong}
use Rattle.c_tokens.specs.Scanning.{among, strip, first_some, behind_first}
use Rattle.c_tokens.proofs.Runs.{test_some, and_true}

abbrev pub all_pass : (List ℕ → Bool) → List (List ℕ) → Bool
all_pass test [] = true
all_pass test (w ∷ ws) = test w && all_pass test ws

pub among_pass : (test : List ℕ → Bool) (ws : List (List ℕ)) (s : List ℕ) → all_pass test ws ≡ true → IsAmong s ws → test s ≡ true
among_pass test [] s e h = absurd h
among_pass test (w ∷ ws) s e (inl same) = ap test same ∙ (and_true (test w) (all_pass test ws) e).0
among_pass test (w ∷ ws) s e (inr more) = among_pass test ws s (and_true (test w) (all_pass test ws) e).1 more

abbrev pub all_of : Bytes → List ℕ → Bool
all_of set [] = true
all_of set (b ∷ bs) = set b && all_of set bs

pub all_of_holds : (set : Bytes) (s : List ℕ) → all_of set s ≡ true → AllOf set s
all_of_holds set [] e = tt
all_of_holds set (b ∷ bs) e = let both = and_true (set b) (all_of set bs) e in (both.0, all_of_holds set bs both.1)

-- the table holds the word exactly where the scan of it says so
among_cases : (w : List ℕ) (ws : List (List ℕ)) (s : List ℕ) (t : Bool) → bytes_eq w s ≡ t → cond t true (among ws s) ≡ true → (among ws s ≡ true → IsAmong s ws) → IsAmong s (w ∷ ws)
among_cases w ws s true is e more = inl (sym ((bytes_eq-Decides w s).0 is))
among_cases w ws s false is e more = inr (more e)

pub among_sound : (ws : List (List ℕ)) (s : List ℕ) → among ws s ≡ true → IsAmong s ws
among_sound [] s e = absurd (let k : false ≡ true = e in cc)
among_sound (w ∷ ws) s e = among_cases w ws s (bytes_eq w s) refl e (λ h. among_sound ws s h)

either_true : (t : Bool) (more : Bool) → more ≡ true → cond t true more ≡ true
either_true true more e = refl
either_true false more e = e

pub among_complete : (ws : List (List ℕ)) (s : List ℕ) → IsAmong s ws → among ws s ≡ true
among_complete [] s h = absurd h
among_complete (w ∷ ws) s (inl same) = ap (λ t. cond t true (among ws s)) ((bytes_eq-Decides w s).1 (sym same))
among_complete (w ∷ ws) s (inr more) = either_true (bytes_eq w s) (among ws s) (among_complete ws s more)

-- the word at the front
pub strip_exact : (word rest : List ℕ) → strip word (word ++ rest) ≡ Some rest
strip_exact word rest =
    let e : bytes_eq (take (length word) (word ++ rest)) word ≡ true = (bytes_eq-Decides (take (length word) (word ++ rest)) word).1 (take_at word rest (length word) refl) in
    ap (λ t. cond t (Some (drop (length word) (word ++ rest))) None) e ∙ ap Some (drop_at word rest (length word) refl)

pub strip_sound : (word bytes rest : List ℕ) → strip word bytes ≡ Some rest → bytes ≡ word ++ rest
strip_sound word bytes rest e =
    let h = test_some (bytes_eq (take (length word) bytes) word) (Some (drop (length word) bytes)) rest e in
    let front : take (length word) bytes ≡ word = (bytes_eq-Decides (take (length word) bytes) word).0 h.0 in
    let back : drop (length word) bytes ≡ rest = let k = h.1 in cc in
    sym (take-append-drop (length word) bytes) ∙ ap (λ xs. xs ++ drop (length word) bytes) front ∙ ap (λ xs. word ++ xs) back

-- no word is longer than one before it
abbrev pub is_falling : List (List ℕ) → Bool
is_falling [] = true
is_falling (w ∷ ws) = all_pass (λ s. nat_le (length s) (length w)) ws && is_falling ws

abbrev pub IsFirst : List (List ℕ) → List ℕ → List ℕ → Type 0
IsFirst ws bytes end = (after : List ℕ) × (behind_first ws bytes ≡ Some after) × (length after ≤ length end)

first_cases : (w : List ℕ) (ws : List (List ℕ)) (s end : List ℕ) (o : Option (List ℕ)) → strip w (s ++ end) ≡ o → length s ≤ length w → IsFirst ws (s ++ end) end → (after : List ℕ) × (first_some o (behind_first ws (s ++ end)) ≡ Some after) × (length after ≤ length end)
first_cases w ws s end None is le more = more
first_cases w ws s end (Some r) is le more =
    let whole : s ++ end ≡ w ++ r = strip_sound w (s ++ end) r is in
    let one : length (s ++ end) ≡ length s + length end = length-append s end in
    let two : length (s ++ end) ≡ length w + length r = ap length whole ∙ length-append w r in
    (r, refl, omega arith)

-- what the scan of a falling table finds is at least as long as any of its words there
pub first_complete : (ws : List (List ℕ)) (s end : List ℕ) → is_falling ws ≡ true → IsAmong s ws → IsFirst ws (s ++ end) end
first_complete [] s end e h = absurd h
first_complete (w ∷ ws) s end e (inl same) =
    let k : strip w (s ++ end) ≡ Some end = ap (λ xs. strip w (xs ++ end)) same ∙ strip_exact w end in
    (end, ap (λ o. first_some o (behind_first ws (s ++ end))) k, omega arith)
first_complete (w ∷ ws) s end e (inr more) =
    let both = and_true (all_pass (λ s. nat_le (length s) (length w)) ws) (is_falling ws) e in
    let le : length s ≤ length w = leb-true (length s) (length w) (among_pass (λ s. nat_le (length s) (length w)) ws s both.0 more) in
    first_cases w ws s end (strip w (s ++ end)) refl le (first_complete ws s end both.1 more)

found_cases : (w : List ℕ) (ws : List (List ℕ)) (bytes after : List ℕ) (o : Option (List ℕ)) → strip w bytes ≡ o → first_some o (behind_first ws bytes) ≡ Some after → (behind_first ws bytes ≡ Some after → (s : List ℕ) × IsAmong s ws × (bytes ≡ s ++ after)) → (s : List ℕ) × IsAmong s (w ∷ ws) × (bytes ≡ s ++ after)
found_cases w ws bytes after None is e more = let m = more e in (m.0, inr m.1, m.2)
found_cases w ws bytes after (Some r) is e more = let same : r ≡ after = cc in (w, inl refl, strip_sound w bytes after (is ∙ ap Some same))

pub first_sound : (ws : List (List ℕ)) (bytes after : List ℕ) → behind_first ws bytes ≡ Some after → (s : List ℕ) × IsAmong s ws × (bytes ≡ s ++ after)
first_sound [] bytes after e = absurd (cc)
first_sound (w ∷ ws) bytes after e = found_cases w ws bytes after (strip w bytes) refl e (λ h. first_sound ws bytes after h)
