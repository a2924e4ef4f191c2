-- Each beginning of a list of words that names a type names a type.
use Rattle.std.proofs.Common.{◌≡◌, ℕ, ◌+◌, ◌≤◌, Bool, true, false, nat_eq, nat_le, refl, sym, arith, ◌&&◌, ◌||◌}
use Rattle.std.proofs.lemmas.Bool.{eqb-true, eq-eqb, leb-true, le-leb, and_from}
use Rattle.c_grammar.specs.Tokens.{Place, TypeWord, Void, Char, Short, Int, Long, Float, Double, Signed, Unsigned}
use Rattle.c_grammar.specs.Derivations.{TypeWords, first_word, next_word}
use Rattle.c_grammar.specs.Spelling.{same_word, count, word_count, one_sign, one_int, names_type}

abbrev sum_of_counts : TypeWords → ℕ
sum_of_counts ws = count Void ws + count Char ws + count Short ws + count Int ws + count Long ws + count Float ws + count Double ws + count Signed ws + count Unsigned ws

-- each word is one of the nine
one_word : (w : TypeWord) → same_word Void w + same_word Char w + same_word Short w + same_word Int w + same_word Long w + same_word Float w + same_word Double w + same_word Signed w + same_word Unsigned w ≡ 1
one_word Void = refl
one_word Char = refl
one_word Short = refl
one_word Int = refl
one_word Long = refl
one_word Float = refl
one_word Double = refl
one_word Signed = refl
one_word Unsigned = refl

word_count_sum : (ws : TypeWords) → word_count ws ≡ sum_of_counts ws
word_count_sum (first_word p w) = sym (one_word w)
word_count_sum (next_word ws p w) = let h : word_count ws ≡ sum_of_counts ws = word_count_sum ws in omega (arith, h, one_word w)

word_count_positive : (ws : TypeWords) → 1 ≤ word_count ws
word_count_positive (first_word p w) = omega arith
word_count_positive (next_word ws p w) = omega arith

or_cases : {C : Type 0} (a b : Bool) → (a || b) ≡ true → (a ≡ true → C) → (b ≡ true → C) → C
or_cases true b h f g = f refl
or_cases false b h f g = g h

or_left : (a b : Bool) → a ≡ true → (a || b) ≡ true
or_left true b h = refl
or_left false b h = let bad : false ≡ true = h in cc

or_right : (a b : Bool) → b ≡ true → (a || b) ≡ true
or_right true b h = refl
or_right false b h = h

both : (a b : Bool) → (a && b) ≡ true → (a ≡ true) × (b ≡ true)
both true b h = (refl, h)
both false b h = let bad : false ≡ true = h in cc

abbrev signs : TypeWords → ℕ
signs ws = count Signed ws + count Unsigned ws

abbrev single : TypeWords → Bool
single ws = nat_eq (word_count ws) 1

abbrev chars : TypeWords → Bool
chars ws = (nat_eq (count Char ws) 1) && one_sign ws && (nat_eq (word_count ws) (1 + signs ws))

abbrev shorts : TypeWords → Bool
shorts ws = (nat_eq (count Short ws) 1) && one_int ws && one_sign ws && (nat_eq (word_count ws) (1 + count Int ws + signs ws))

abbrev longs : TypeWords → Bool
longs ws = (nat_le (count Long ws) 2) && one_int ws && one_sign ws && (nat_eq (word_count ws) (count Long ws + count Int ws + signs ws))

abbrev long_double : TypeWords → Bool
long_double ws = (nat_eq (count Long ws) 1) && (nat_eq (count Double ws) 1) && (nat_eq (word_count ws) 2)

single_type : (ws : TypeWords) → word_count ws ≡ 1 → names_type ws ≡ true
single_type ws h =
    or_left (single ws || chars ws || shorts ws || longs ws) (long_double ws) (or_left (single ws || chars ws || shorts ws) (longs ws)
    (or_left (single ws || chars ws) (shorts ws) (or_left (single ws) (chars ws) (eq-eqb (word_count ws) 1 h))))

short_type : (ws : TypeWords) → count Short ws ≡ 1 → count Int ws ≤ 1 → signs ws ≤ 1 → word_count ws ≡ 1 + count Int ws + signs ws → names_type ws ≡ true
short_type ws s i g n =
    or_left (single ws || chars ws || shorts ws || longs ws) (long_double ws) (or_left (single ws || chars ws || shorts ws) (longs ws)
    (or_right (single ws || chars ws) (shorts ws)
    (and_from _ _ (and_from _ _ (and_from _ _ (eq-eqb (count Short ws) 1 s) (le-leb (count Int ws) 1 i)) (le-leb (signs ws) 1 g)) (eq-eqb (word_count ws) (1 + count Int ws + signs ws) n))))

long_type : (ws : TypeWords) → count Long ws ≤ 2 → count Int ws ≤ 1 → signs ws ≤ 1 → word_count ws ≡ count Long ws + count Int ws + signs ws → names_type ws ≡ true
long_type ws l i g n =
    or_left (single ws || chars ws || shorts ws || longs ws) (long_double ws) (or_right (single ws || chars ws || shorts ws) (longs ws)
    (and_from _ _ (and_from _ _ (and_from _ _ (le-leb (count Long ws) 2 l) (le-leb (count Int ws) 1 i)) (le-leb (signs ws) 1 g))
    (eq-eqb (word_count ws) (count Long ws + count Int ws + signs ws) n)))

-- without the last word
from_short : (ws : TypeWords) (p : Place) (w : TypeWord) → count Short (next_word ws p w) ≡ 1 → count Int (next_word ws p w) ≤ 1 → signs (next_word ws p w) ≤ 1
    → word_count (next_word ws p w) ≡ 1 + count Int (next_word ws p w) + signs (next_word ws p w) → names_type ws ≡ true
from_short ws p Void s i g n = let q : word_count ws ≡ sum_of_counts ws = word_count_sum ws in absurd (omega (arith, s, n, q))
from_short ws p Char s i g n = let q : word_count ws ≡ sum_of_counts ws = word_count_sum ws in absurd (omega (arith, s, n, q))
from_short ws p Short s i g n = let q : word_count ws ≡ sum_of_counts ws = word_count_sum ws in long_type ws (omega (arith, s, n, q)) (omega (arith, i)) (omega (arith, g)) (omega (arith, s, n, q))
from_short ws p Int s i g n = let q : word_count ws ≡ sum_of_counts ws = word_count_sum ws in short_type ws (omega (arith, s)) (omega (arith, i)) (omega (arith, g)) (omega (arith, n))
from_short ws p Long s i g n = let q : word_count ws ≡ sum_of_counts ws = word_count_sum ws in absurd (omega (arith, s, n, q))
from_short ws p Float s i g n = let q : word_count ws ≡ sum_of_counts ws = word_count_sum ws in absurd (omega (arith, s, n, q))
from_short ws p Double s i g n = let q : word_count ws ≡ sum_of_counts ws = word_count_sum ws in absurd (omega (arith, s, n, q))
from_short ws p Signed s i g n = let q : word_count ws ≡ sum_of_counts ws = word_count_sum ws in short_type ws (omega (arith, s)) (omega (arith, i)) (omega (arith, g)) (omega (arith, n))
from_short ws p Unsigned s i g n = let q : word_count ws ≡ sum_of_counts ws = word_count_sum ws in short_type ws (omega (arith, s)) (omega (arith, i)) (omega (arith, g)) (omega (arith, n))

from_long : (ws : TypeWords) (p : Place) (w : TypeWord) → count Long (next_word ws p w) ≤ 2 → count Int (next_word ws p w) ≤ 1 → signs (next_word ws p w) ≤ 1
    → word_count (next_word ws p w) ≡ count Long (next_word ws p w) + count Int (next_word ws p w) + signs (next_word ws p w) → names_type ws ≡ true
from_long ws p Void l i g n = let q : word_count ws ≡ sum_of_counts ws = word_count_sum ws in absurd (omega (arith, n, q))
from_long ws p Char l i g n = let q : word_count ws ≡ sum_of_counts ws = word_count_sum ws in absurd (omega (arith, n, q))
from_long ws p Short l i g n = let q : word_count ws ≡ sum_of_counts ws = word_count_sum ws in absurd (omega (arith, n, q))
from_long ws p Int l i g n = let q : word_count ws ≡ sum_of_counts ws = word_count_sum ws in long_type ws (omega (arith, l)) (omega (arith, i)) (omega (arith, g)) (omega (arith, n))
from_long ws p Long l i g n = let q : word_count ws ≡ sum_of_counts ws = word_count_sum ws in long_type ws (omega (arith, l)) (omega (arith, i)) (omega (arith, g)) (omega (arith, n))
from_long ws p Float l i g n = let q : word_count ws ≡ sum_of_counts ws = word_count_sum ws in absurd (omega (arith, n, q))
from_long ws p Double l i g n = let q : word_count ws ≡ sum_of_counts ws = word_count_sum ws in absurd (omega (arith, n, q))
from_long ws p Signed l i g n = let q : word_count ws ≡ sum_of_counts ws = word_count_sum ws in long_type ws (omega (arith, l)) (omega (arith, i)) (omega (arith, g)) (omega (arith, n))
from_long ws p Unsigned l i g n = let q : word_count ws ≡ sum_of_counts ws = word_count_sum ws in long_type ws (omega (arith, l)) (omega (arith, i)) (omega (arith, g)) (omega (arith, n))

pub beginning_names_type : (ws : TypeWords) (p : Place) (w : TypeWord) → names_type (next_word ws p w) ≡ true → names_type ws ≡ true
beginning_names_type ws p w h =
    let v : TypeWords = next_word ws p w in
    let few : 1 ≤ word_count ws = word_count_positive ws in
    or_cases (single v || chars v || shorts v || longs v) (long_double v) h
    (λ h. or_cases (single v || chars v || shorts v) (longs v) h
    (λ h. or_cases (single v || chars v) (shorts v) h
    (λ h. or_cases (single v) (chars v) h (λ h. absurd (omega (arith, eqb-true (word_count v) 1 h, few)))
    (λ h. let a : (((nat_eq (count Char v) 1) && one_sign v) ≡ true) × (nat_eq (word_count v) (1 + signs v) ≡ true) = both _ _ h in
    let b : (nat_eq (count Char v) 1 ≡ true) × (one_sign v ≡ true) = both _ _ a.0 in
    single_type ws (omega (arith, few, eqb-true (word_count v) (1 + signs v) a.1, leb-true (signs v) 1 b.1))))
    (λ h. let a : ((((nat_eq (count Short v) 1) && one_int v) && one_sign v) ≡ true) × (nat_eq (word_count v) (1 + count Int v + signs v) ≡ true) = both _ _ h in
    let b : (((nat_eq (count Short v) 1) && one_int v) ≡ true) × (one_sign v ≡ true) = both _ _ a.0 in
    let c : (nat_eq (count Short v) 1 ≡ true) × (one_int v ≡ true) = both _ _ b.0 in
    from_short ws p w (eqb-true (count Short v) 1 c.0) (leb-true (count Int v) 1 c.1) (leb-true (signs v) 1 b.1) (eqb-true (word_count v) (1 + count Int v + signs v) a.1)))
    (λ h. let a : ((((nat_le (count Long v) 2) && one_int v) && one_sign v) ≡ true) × (nat_eq (word_count v) (count Long v + count Int v + signs v) ≡ true) = both _ _ h in
    let b : (((nat_le (count Long v) 2) && one_int v) ≡ true) × (one_sign v ≡ true) = both _ _ a.0 in
    let c : (nat_le (count Long v) 2 ≡ true) × (one_int v ≡ true) = both _ _ b.0 in
    from_long ws p w (leb-true (count Long v) 2 c.0) (leb-true (count Int v) 1 c.1) (leb-true (signs v) 1 b.1)
    (eqb-true (word_count v) (count Long v + count Int v + signs v) a.1)))
    (λ h. let a : (((nat_eq (count Long v) 1) && (nat_eq (count Double v) 1)) ≡ true) × (nat_eq (word_count v) 2 ≡ true) = both _ _ h in
    single_type ws (omega (arith, eqb-true (word_count v) 2 a.1)))
