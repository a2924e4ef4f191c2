-- The line that is cut off is the first of the text.
use Rattle.std.proofs.Common.{◌≡◌, ◌≢◌, ℕ, suc, List, [], ◌∷◌, length, take, drop, refl, sym, ◌∙◌, ap, subst, Bool, true, false, cond, eqb, arith}
use Rattle.std.proofs.lemmas.Bool.{eqb-true, eq-eqb, false≢true}
use Rattle.x86_lines.specs.Pieces.{onto_first}
use Rattle.x86_text.specs.Cutting.{line_len, past_feed}
use Rattle.x86_text.specs.Text.{lines}

abbrev Cut : List ℕ → ℕ → Type 0
Cut bytes n = lines bytes ≡ take n bytes ∷ lines (past_feed (drop n bytes))

cut_at : (b : ℕ) (bs : List ℕ) (feed : Bool) → eqb b 10 ≡ feed → (bs ≢ [] → Cut bs (line_len bs)) → Cut (b ∷ bs) (cond feed 0 (suc (line_len bs)))
cut_at b bs true e h = ap (λ (t : Bool). cond t ([] ∷ lines bs) (onto_first b (lines bs))) e
cut_at b [] false e h = ap (λ (t : Bool). cond t ([] ∷ lines []) (onto_first b (lines []))) e
cut_at b (c ∷ cs) false e h = ap (λ (t : Bool). cond t ([] ∷ lines (c ∷ cs)) (onto_first b (lines (c ∷ cs)))) e ∙ ap (onto_first b) (h (λ k. cc))

cut : (bytes : List ℕ) → bytes ≢ [] → Cut bytes (line_len bytes)
cut [] h = absurd (h refl)
cut (b ∷ bs) h = cut_at b bs (eqb b 10) refl (cut bs)

pub cut_line : (bytes line behind rest : List ℕ) (n : ℕ) → bytes ≢ [] → n ≡ line_len bytes → line ≡ take n bytes → behind ≡ drop n bytes → rest ≡ past_feed behind → lines bytes ≡ line ∷ lines rest
cut_line bytes line behind rest n some e f g h =
    let whole : Cut bytes n = subst (Cut bytes) (sym e) (cut bytes some) in
    let after : rest ≡ past_feed (drop n bytes) = h ∙ ap past_feed g in
    subst (λ (x : List ℕ). lines bytes ≡ x ∷ lines rest) (sym f) (subst (λ (x : List ℕ). lines bytes ≡ take n bytes ∷ lines x) (sym after) whole)

pub some_bytes : (bytes : List ℕ) (b : Bool) → b ≡ eqb (length bytes) 0 → b ≡ false → bytes ≢ []
some_bytes bytes b e f same = false≢true (sym f ∙ e ∙ eq-eqb (length bytes) 0 (ap length same))

pub no_bytes : (bytes : List ℕ) (b : Bool) → b ≡ eqb (length bytes) 0 → b ≡ true → lines bytes ≡ []
no_bytes [] b e h = refl
no_bytes (x ∷ bs) b e h = absurd (let zero : length (x ∷ bs) ≡ 0 = eqb-true (length (x ∷ bs)) 0 (sym e ∙ h) in omega (arith, zero))
