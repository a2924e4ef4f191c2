-- There is one default choice of an offer at most.
use Rattle.std.proofs.Common.{◌≡◌, ◌≤◌, ℕ, Bool, true, false, List, Option, Some, None, refl, sym, ◌∙◌, ap, inl, inr, arith}
use Rattle.tso_words.specs.declared.value.Val.TheVariants.{Word, Undef}
use Rattle.tso_memory.specs.declared.object.Object.{Object}
use Rattle.tso_memory.specs.declared.buffer.Item.{Item}
use Rattle.tso_memory.specs.Buffer.{is_place_allowed}
use Rattle.tso_core.specs.declared.offer.Offer.{Offer}
use Rattle.tso_core.specs.declared.offer.Offer.TheVariants as O
use Rattle.tso_core.specs.Shared.{is_block_allowed, block_size}
use Rattle.tso_core.specs.Least.{IsLeast, NonePasses}
use Rattle.tso_machine.specs.Choices.{IsLeastOrNone, IsLeastOrZero, IsDefault}

pub no_both : (b : Bool) → b ≡ true → b ≡ false → ⊥
no_both true h k = cc
no_both false h k = cc

least_one : (from : ℕ) (test : ℕ → Bool) (a b : ℕ) → IsLeast from test a → IsLeast from test b → a ≡ b
least_one from test a b h k =
    let below : a ≤ b = h.least b k.high k.multiple k.passes in
    let above : b ≤ a = k.least a h.high h.multiple h.passes in
    omega arith

least_passes : (from : ℕ) (test : ℕ → Bool) (a : ℕ) → IsLeast from test a → NonePasses from test → ⊥
least_passes from test a h none = no_both (test a) h.passes (none a h.high h.multiple)

least_or_none_one : (from : ℕ) (test : ℕ → Bool) (c d : Option ℕ) → IsLeastOrNone from test c → IsLeastOrNone from test d → c ≡ d
least_or_none_one from test None None h k = refl
least_or_none_one from test None (Some b) h k = absurd (least_passes from test b k h)
least_or_none_one from test (Some a) None h k = absurd (least_passes from test a h k)
least_or_none_one from test (Some a) (Some b) h k = ap Some (least_one from test a b h k)

least_or_zero_one : (os : List Object) (n a b : ℕ) → IsLeastOrZero os n a → IsLeastOrZero os n b → a ≡ b
least_or_zero_one os n a b (inl h) (inl k) = least_one 0x30000000 (λ x. is_block_allowed os x (block_size n)) a b h k
least_or_zero_one os n a b (inl h) (inr k) = absurd (least_passes 0x30000000 (λ x. is_block_allowed os x (block_size n)) a h k.1)
least_or_zero_one os n a b (inr h) (inl k) = absurd (least_passes 0x30000000 (λ x. is_block_allowed os x (block_size n)) b k h.1)
least_or_zero_one os n a b (inr h) (inr k) = h.0 ∙ sym k.0

pub default_one : (os : List Object) (buffers : List (List Item)) (i : ℕ) (o : Offer) (c d : Option ℕ) → IsDefault os buffers i o c → IsDefault os buffers i o d → c ≡ d
default_one os buffers i (O.Place size align) c d h k = least_or_none_one 0x90000000 (λ base. is_place_allowed os buffers i base size align) c d h k
default_one os buffers i (O.Malloc (Word n)) None d h k = absurd h
default_one os buffers i (O.Malloc (Word n)) (Some a) None h k = absurd k
default_one os buffers i (O.Malloc (Word n)) (Some a) (Some b) h k = ap Some (least_or_zero_one os n a b h k)
default_one os buffers i (O.Malloc Undef) c d h k = h ∙ sym k
default_one os buffers i _ c d h k = h ∙ sym k
