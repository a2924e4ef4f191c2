-- The bits and the count that the code finds are those of the piece, and the only ones.
use Rattle.std.proofs.Common.{◌≡◌, ℕ, ◌≤◌, List, refl, sym, ◌∙◌, ap, subst, Bool, Option, Some, None}
use Rattle.std.specs.Prelude.{MatchOption}
use Rattle.std.specs.Option.{option_map}
use Rattle.x86_lines.specs.declared.number.Number.{Number}
use Rattle.x86_lines.specs.Numbers.{IsNumber, InWidth, IsBits}
use Rattle.x86_lines.specs.Reading.{number_in}
use Rattle.x86_lines.specs.Told.{IsTold, told}
use Rattle.x86_lines.specs.Finding.{bits_from, bits_in, count_from, count_in}
use Rattle.x86_lines.proofs.NumberRead.{told_at, one_number}
use Rattle.x86_lines.proofs.BitsRead.{Fits, Counts, bits_read, no_bits, count_read, no_count, width_complete}

bits_at : (half : ℕ) (word : List ℕ) (n : Option Number) (r : Option ℕ) → half ≤ 2147483648 → MatchOption n ((negative : Bool) (size : ℕ) → ¬ IsNumber word negative size) (λ n. IsTold word n) → r ≡ bits_from half n → Fits half word r
bits_at half word None r small h e = subst (Fits half word) (sym e) (no_bits half word h)
bits_at half word (Some n) r small h e = bits_read half word n r small h e

pub bits_found : (half : ℕ) (word : List ℕ) (r : Option ℕ) → half ≤ 2147483648 → r ≡ bits_in half word → Fits half word r
unfolding bits_in
bits_found half word r small e = bits_at half word (option_map told (number_in word)) r small (told_at word (number_in word) (option_map told (number_in word)) refl refl) e

count_at : (word : List ℕ) (n : Option Number) (r : Option ℕ) → MatchOption n ((negative : Bool) (size : ℕ) → ¬ IsNumber word negative size) (λ n. IsTold word n) → r ≡ count_from n → Counts word r
count_at word None r h e = subst (Counts word) (sym e) (no_count word h)
count_at word (Some n) r h e = count_read word n r h e

pub count_found : (word : List ℕ) (r : Option ℕ) → r ≡ count_in word → Counts word r
unfolding count_in
count_found word r e = count_at word (option_map told (number_in word)) r (told_at word (number_in word) (option_map told (number_in word)) refl refl) e

-- a piece stands for one number of a width, and for one count
width_one : (half : ℕ) (negative : Bool) (size n m : ℕ) → InWidth half negative size n → InWidth half negative size m → n ≡ m
width_one half negative size n m h k = let e : Some n ≡ Some m = sym (width_complete half negative size n h) ∙ width_complete half negative size m k in cc

pub one_word : (half : ℕ) (word : List ℕ) (n m : ℕ) → IsBits half word n → IsBits half word m → n ≡ m
one_word half word n m h k =
    let same = one_number word k.negative h.negative k.size h.size k.number h.number in
    width_one half h.negative h.size n m h.ranges (subst (λ (t : Bool). InWidth half t h.size m) same.0 (subst (λ (s : ℕ). InWidth half k.negative s m) same.1 k.ranges))

bits_some_at : (half : ℕ) (word : List ℕ) (n : ℕ) (r : Option ℕ) → Fits half word r → IsBits half word n → r ≡ Some n
bits_some_at half word n None f h = absurd (f n h)
bits_some_at half word n (Some m) f h = ap Some (one_word half word m n f h)

pub bits_some : (half : ℕ) (word : List ℕ) (n : ℕ) → half ≤ 2147483648 → IsBits half word n → bits_in half word ≡ Some n
bits_some half word n small h = bits_some_at half word n (bits_in half word) (bits_found half word (bits_in half word) small refl) h

bits_sound_at : (half : ℕ) (word : List ℕ) (n : ℕ) (r : Option ℕ) → Fits half word r → r ≡ Some n → IsBits half word n
bits_sound_at half word n None f e = absurd cc
bits_sound_at half word n (Some m) f e = subst (IsBits half word) (let k : Some m ≡ Some n = e in cc) f

pub bits_sound : (half : ℕ) (word : List ℕ) (n : ℕ) → half ≤ 2147483648 → bits_in half word ≡ Some n → IsBits half word n
bits_sound half word n small e = bits_sound_at half word n (bits_in half word) (bits_found half word (bits_in half word) small refl) e

bits_none_at : (half : ℕ) (word : List ℕ) (r : Option ℕ) → Fits half word r → ((n : ℕ) → ¬ IsBits half word n) → r ≡ None
bits_none_at half word None f h = refl
bits_none_at half word (Some n) f h = absurd (h n f)

pub bits_none : (half : ℕ) (word : List ℕ) → half ≤ 2147483648 → ((n : ℕ) → ¬ IsBits half word n) → bits_in half word ≡ None
bits_none half word small h = bits_none_at half word (bits_in half word) (bits_found half word (bits_in half word) small refl) h
