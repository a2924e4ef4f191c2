-- What the pieces of texts that stand one behind another are.
use Rattle.std.proofs.Common.{◌≡◌, ℕ, ◌<◌, List, [], ◌∷◌, ◌++◌, refl, sym, ◌∙◌, ap, Bool, true, false, cond, arith, append_assoc, ⊎_elim, eqb, ◌^◌}
use Rattle.std.specs.Prelude.{◌&&◌, ◌||◌, nat_le}
use Rattle.std.specs.Fmt.{decimal}
use Rattle.std.specs.Char.{digit_value}
use Rattle.std.specs.Str.Parse.{IsNumeral, AllDigits}
use Rattle.std.proofs.lemmas.Bool.{and_parts, and_from, or_left, or_right, le-leb, false_from_ne_true, false≢true, or_cases, eqb-true}
use Rattle.std.proofs.lemmas.List.{append-nil}
use Rattle.std.proofs.lemmas.Fmt.{decimal_is_IsNumeral_wide}
use Rattle.std.proofs.lemmas.Str.Parse.{digit_from_value}
use Rattle.x86_table.specs.Names.{AllOf, IsName, begins_name, is_of_name}
use Rattle.x86_lines.specs.Pieces.{pieces, is_blank, goes_on, joins, onto_first}
use Rattle.x86_lines.specs.Reading.{opens, all_of_name}

name_blank : (b : ℕ) → is_of_name b ≡ true → is_blank b ≡ true → ⊥
name_blank b h k =
    ⊎_elim
    (λ e. let same : b ≡ 32 = eqb-true b 32 e in let bad : is_of_name 32 ≡ true = rw same at h in false≢true bad)
    (λ e. let same : b ≡ 9 = eqb-true b 9 e in let bad : is_of_name 9 ≡ true = rw same at h in false≢true bad)
    (or_cases (eqb b 32) (eqb b 9) k)

pub name_no_blank : (b : ℕ) → is_of_name b ≡ true → is_blank b ≡ false
name_no_blank b h = false_from_ne_true (is_blank b) (name_blank b h)

pub opens_name : (b : ℕ) → is_of_name b ≡ true → opens b ≡ true
opens_name b h = or_left (is_of_name b || eqb b 37) (eqb b 45) (or_left (is_of_name b) (eqb b 37) h)

-- one byte in front
pub solid_step : (b : ℕ) (bs : List ℕ) (blank join : Bool) → is_blank b ≡ blank → joins b bs ≡ join → pieces (b ∷ bs) ≡ cond blank (pieces bs) (cond join (onto_first b (pieces bs)) ((b ∷ []) ∷ pieces bs))
solid_step b bs blank join e f = ap (λ t. cond t (pieces bs) (cond (joins b bs) (onto_first b (pieces bs)) ((b ∷ []) ∷ pieces bs))) e ∙ ap (λ t. cond blank (pieces bs) (cond t (onto_first b (pieces bs)) ((b ∷ []) ∷ pieces bs))) f

-- a word up to where no word goes on is one piece
pub cut_word : (b : ℕ) (w rest : List ℕ) → is_blank b ≡ false → opens b ≡ true → all_of_name w ≡ true → goes_on rest ≡ false → pieces (b ∷ w ++ rest) ≡ (b ∷ w) ∷ pieces rest
cut_word b [] rest solid may all stop = solid_step b rest false false solid (ap (λ t. opens b && t) stop ∙ ap (λ t. t && false) may)
cut_word b (c ∷ w) rest solid may all stop =
    let parts = and_parts (is_of_name c) (all_of_name w) all in
    let goes : joins b (c ∷ w ++ rest) ≡ true = and_from (opens b) (is_of_name c) may parts.0 in
    solid_step b (c ∷ w ++ rest) false true solid goes ∙ ap (onto_first b) (cut_word c w rest (name_no_blank c parts.0) (opens_name c parts.0) parts.1 stop)

-- a text has these pieces where no word goes on behind it; and where anything may stand behind it
pub record Cuts (text : List ℕ) (ps : List (List ℕ)) : Type 0 where
  pub cut : (rest : List ℕ) → goes_on rest ≡ false → pieces (text ++ rest) ≡ ps ++ pieces rest

pub record CutsAll (text : List ℕ) (ps : List (List ℕ)) : Type 0 where
  pub cut : (rest : List ℕ) → pieces (text ++ rest) ≡ ps ++ pieces rest

-- no word goes on into it
pub record IsFresh (text : List ℕ) : Type 0 where
  pub fresh : (rest : List ℕ) → goes_on rest ≡ false → goes_on (text ++ rest) ≡ false

pub cuts_word : (b : ℕ) (w : List ℕ) → is_blank b ≡ false → opens b ≡ true → all_of_name w ≡ true → Cuts (b ∷ w) ((b ∷ w) ∷ [])
cuts_word b w solid may all = record { cut = λ rest stop. cut_word b w rest solid may all stop }

pub cuts_all : (text : List ℕ) (ps : List (List ℕ)) → CutsAll text ps → Cuts text ps
cuts_all text ps h = record { cut = λ rest stop. h.cut rest }

pub cuts_nothing : CutsAll [] []
cuts_nothing = record { cut = λ rest. refl }

pub cuts_after : (t u : List ℕ) (ps qs : List (List ℕ)) → CutsAll t ps → Cuts u qs → Cuts (t ++ u) (ps ++ qs)
cuts_after t u ps qs h k = record { cut = λ rest stop. ap pieces (append_assoc t u rest) ∙ h.cut (u ++ rest) ∙ ap (λ xs. ps ++ xs) (k.cut rest stop) ∙ sym (append_assoc ps qs (pieces rest)) }

pub cuts_all_after : (t u : List ℕ) (ps qs : List (List ℕ)) → CutsAll t ps → CutsAll u qs → CutsAll (t ++ u) (ps ++ qs)
cuts_all_after t u ps qs h k = record { cut = λ rest. ap pieces (append_assoc t u rest) ∙ h.cut (u ++ rest) ∙ ap (λ xs. ps ++ xs) (k.cut rest) ∙ sym (append_assoc ps qs (pieces rest)) }

pub cuts_then : (t u : List ℕ) (ps qs : List (List ℕ)) → Cuts t ps → IsFresh u → Cuts u qs → Cuts (t ++ u) (ps ++ qs)
cuts_then t u ps qs h f k = record { cut = λ rest stop. ap pieces (append_assoc t u rest) ∙ h.cut (u ++ rest) (f.fresh rest stop) ∙ ap (λ xs. ps ++ xs) (k.cut rest stop) ∙ sym (append_assoc ps qs (pieces rest)) }

-- a whole text
pub cuts_whole : (t : List ℕ) (ps : List (List ℕ)) → Cuts t ps → pieces t ≡ ps
cuts_whole t ps h = ap pieces (sym (append-nil t)) ∙ h.cut [] refl ∙ append-nil ps

-- names and numbers
pub name_passes : (bs : List ℕ) → AllOf (λ c. is_of_name c ≡ true) bs → all_of_name bs ≡ true
name_passes [] h = refl
name_passes (b ∷ bs) h = and_from (is_of_name b) (all_of_name bs) h.0 (name_passes bs h.1)

pub begins_is_of_name : (b : ℕ) → begins_name b ≡ true → is_of_name b ≡ true
begins_is_of_name b h = or_left (begins_name b) (nat_le 48 b && nat_le b 57) h

pub cuts_name : (name : List ℕ) → IsName name → Cuts name (name ∷ [])
cuts_name [] h = absurd h
cuts_name (b ∷ bs) h = let own = begins_is_of_name b h.0 in cuts_word b bs (name_no_blank b own) (opens_name b own) (name_passes bs h.1)

digit_is_of_name : (c : ℕ) → digit_value c < 10 → is_of_name c ≡ true
digit_is_of_name c h = let range = digit_from_value c h in or_right (begins_name c) (nat_le 48 c && nat_le c 57) (and_from (nat_le 48 c) (nat_le c 57) (le-leb 48 c range.0) (le-leb c 57 range.1))

digits_pass : (ds : List ℕ) → AllDigits 10 ds → all_of_name ds ≡ true
digits_pass [] h = refl
digits_pass (c ∷ cs) h = and_from (is_of_name c) (all_of_name cs) (digit_is_of_name c h.0) (digits_pass cs h.1)

cuts_digits : (ds : List ℕ) → IsNumeral 10 ds → Cuts ds (ds ∷ [])
cuts_digits [] h = absurd (let k : 0 < 0 = h.0 in omega arith)
cuts_digits (c ∷ cs) h = let own = digit_is_of_name c h.1.0 in cuts_word c cs (name_no_blank c own) (opens_name c own) (digits_pass cs h.1.1)

pub cuts_decimal : (n : ℕ) → n < 10 ^ 64 → Cuts (decimal n) (decimal n ∷ [])
cuts_decimal n h = cuts_digits (decimal n) (decimal_is_IsNumeral_wide n h).0

pub cuts_minus : (n : ℕ) → n < 10 ^ 64 → Cuts (45 ∷ decimal n) ((45 ∷ decimal n) ∷ [])
cuts_minus n h = cuts_word 45 (decimal n) refl refl (digits_pass (decimal n) (decimal_is_IsNumeral_wide n h).0.1)

-- what may stand behind a word
pub record IsStop (text : List ℕ) : Type 0 where
  pub stops : (rest : List ℕ) → goes_on (text ++ rest) ≡ false

pub stop_fresh : (text : List ℕ) → IsStop text → IsFresh text
stop_fresh text h = record { fresh = λ rest stop. h.stops rest }

pub cuts_stop : (t u : List ℕ) (ps qs : List (List ℕ)) → Cuts t ps → IsStop u → CutsAll u qs → CutsAll (t ++ u) (ps ++ qs)
cuts_stop t u ps qs h f k = record { cut = λ rest. ap pieces (append_assoc t u rest) ∙ h.cut (u ++ rest) (f.stops rest) ∙ ap (λ xs. ps ++ xs) (k.cut rest) ∙ sym (append_assoc ps qs (pieces rest)) }

-- any text where no word goes on behind it
goes_on_append : (t rest : List ℕ) → goes_on rest ≡ false → goes_on (t ++ rest) ≡ goes_on t
goes_on_append [] rest stop = stop
goes_on_append (c ∷ t) rest stop = refl

abbrev has_first : List (List ℕ) → Bool
has_first [] = false
has_first (p ∷ ps) = true

onto_has_first : (b : ℕ) (ps : List (List ℕ)) → has_first (onto_first b ps) ≡ true
onto_has_first b [] = refl
onto_has_first b (p ∷ ps) = refl

joined_has_first : (c : ℕ) (t : List ℕ) (join : Bool) → has_first (cond join (onto_first c (pieces t)) ((c ∷ []) ∷ pieces t)) ≡ true
joined_has_first c t true = onto_has_first c (pieces t)
joined_has_first c t false = refl

pieces_have_first : (t : List ℕ) → goes_on t ≡ true → has_first (pieces t) ≡ true
pieces_have_first [] h = absurd (false≢true h)
pieces_have_first (c ∷ t) h = ap has_first (solid_step c t false (joins c t) (name_no_blank c h) refl) ∙ joined_has_first c t (joins c t)

onto_append : (b : ℕ) (xs ys : List (List ℕ)) → has_first xs ≡ true → onto_first b (xs ++ ys) ≡ onto_first b xs ++ ys
onto_append b [] ys h = absurd (false≢true h)
onto_append b (x ∷ xs) ys h = refl

any_middle : (b : ℕ) (xs ys zs : List (List ℕ)) (blank join : Bool) → xs ≡ ys ++ zs → (join ≡ true → has_first ys ≡ true) → cond blank xs (cond join (onto_first b xs) ((b ∷ []) ∷ xs)) ≡ cond blank ys (cond join (onto_first b ys) ((b ∷ []) ∷ ys)) ++ zs
any_middle b xs ys zs true join e f = e
any_middle b xs ys zs false true e f = ap (onto_first b) e ∙ onto_append b ys zs (f refl)
any_middle b xs ys zs false false e f = ap (λ ps. (b ∷ []) ∷ ps) e

pub cut_any : (t rest : List ℕ) → goes_on rest ≡ false → pieces (t ++ rest) ≡ pieces t ++ pieces rest
cut_any [] rest stop = refl
cut_any (b ∷ t) rest stop =
    let same : joins b (t ++ rest) ≡ joins b t = ap (λ g. opens b && g) (goes_on_append t rest stop) in
    solid_step b (t ++ rest) (is_blank b) (joins b t) refl same
    ∙ any_middle b (pieces (t ++ rest)) (pieces t) (pieces rest) (is_blank b) (joins b t) (cut_any t rest stop) (λ h. pieces_have_first t (and_parts (opens b) (goes_on t) h).1)

pub cuts_any : (t : List ℕ) → Cuts t (pieces t)
cuts_any t = record { cut = cut_any t }
