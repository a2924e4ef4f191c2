-- A thread more.
use Rattle.std.proofs.Common.{◌≡◌, ℕ, zero, suc, ◌+◌, Bool, true, false, List, [], ◌∷◌, ◌++◌, length, refl, sym, ap, ◌∙◌, Option, Some, None}
use Rattle.std.specs.Prelude.{slice_get, slice_set, if◌then◌else◌}
use Rattle.x86_lang.specs.Assembly.{Assembly}
use Rattle.x86_machine.specs.Target.{Thread, State, is_code, is_stack_allowed}
use Rattle.x86_machine.specs.X86Tso.{answered, begun, created, new_thread, with_thread, with_argument}

found_more : (ts : List Thread) (x t : Thread) (i : ℕ) → slice_get ts i ≡ Some t → slice_get (ts ++ x ∷ []) i ≡ Some t
found_more [] x t i e = cc
found_more (u ∷ ts) x t zero e = e
found_more (u ∷ ts) x t (suc i) e = found_more ts x t i e

set_more : (ts : List Thread) (x t u : Thread) (i : ℕ) → slice_get ts i ≡ Some t → slice_set (ts ++ x ∷ []) i u ≡ slice_set ts i u ++ x ∷ []
set_more [] x t u i e = cc
set_more (v ∷ ts) x t u zero e = refl
set_more (v ∷ ts) x t u (suc i) e = ap (λ us. v ∷ us) (set_more ts x t u i e)

-- the thread that creates is there as before, and may change before or after
pub found_begun : (m s : State) (f g b i : ℕ) (t : Thread) → s ≡ begun m f g b → slice_get m.threads i ≡ Some t → slice_get s.threads i ≡ Some t
found_begun m s f g b i t e h = ap (λ (z : State). slice_get z.threads i) e ∙ found_more m.threads (new_thread f b) t i h

begun_set : (m s : State) (f g b i : ℕ) (t u : Thread) → s ≡ begun m f g b → slice_get m.threads i ≡ Some t → with_thread s i u ≡ begun (with_thread m i u) f g b
begun_set m s f g b i t u e h = ap (λ (z : State). with_thread z i u) e ∙ ap (λ (us : List Thread). record m { memory = with_argument m.memory b g; threads = us }) (set_more m.threads (new_thread f b) t u i h)

created_done : (a : Assembly) (m : State) (i : ℕ) (t : Thread) (f g b : ℕ) → (b ≡ 0 → ⊥) → is_stack_allowed m.threads b ≡ true → is_code a f ≡ true → is_code a (t.place + 1) ≡ true → created a m i t f g b ≡ Some (None, begun (with_thread m i (answered t (length m.threads))) f g b)
created_done a m i t f g zero z p q r = absurd (z refl)
created_done a m i t f g (suc b) z p q r = rw (p, q, r) refl

pub created_from : (a : Assembly) (m s : State) (i : ℕ) (t : Thread) (f g b n : ℕ) → (b ≡ 0 → ⊥) → is_stack_allowed m.threads b ≡ true → is_code a f ≡ true → is_code a (t.place + 1) ≡ true → s ≡ begun m f g b → slice_get m.threads i ≡ Some t → n ≡ length m.threads → (new : State) → new ≡ with_thread s i (answered t n) → Some (None, new) ≡ created a m i t f g b
created_from a m s i t f g b n z p q r e h k new w =
    ap (λ (y : State). Some (None, y)) (w ∙ (begun_set m s f g b i t (answered t n) e h ∙ ap (λ j. begun (with_thread m i (answered t j)) f g b) k)) ∙ sym (created_done a m i t f g b z p q r)
