-- A walk over the multiples of 16 finds the least that passes a test.
use Rattle.std.proofs.Common.{◌≡◌, ◌≤◌, ◌<◌, ◌+◌, ◌%◌, ◌⊎◌, inl, inr, ℕ, Bool, true, false, not, refl, sym, ap, ◌∙◌, List, [], ◌∷◌}
use Rattle.std.specs.Prelude.{◌&&◌, ◌||◌, ◌==◌, nat_le, slice_index_or}
use Rattle.std.specs.List.{list_all}
use Rattle.std.proofs.lemmas.Bool.{cases_lt, both_ways, le-leb, eq-eqb}
use Rattle.tso_memory.specs.declared.object.Object.{Object}
use Rattle.tso_memory.specs.declared.buffer.Item.{Item}
use Rattle.tso_memory.specs.Memory.{meets}
use Rattle.tso_memory.specs.Buffer.{objects_lifted, pending_ok}
use Rattle.tso_core.specs.Shared.{is_block_allowed}
use Rattle.tso_core.specs.Least.{IsLeast, NoneBetween}

-- where the test is another, which fails wherever the one of the walk does
module _ (from : ℕ) (walked test : ℕ → Bool) (weaker : (x : ℕ) → walked x ≡ false → test x ≡ false) (x : ℕ) (none : NoneBetween walked from x) where
  pub found_least : from ≤ x → x % 16 ≡ 0 → test x ≡ true → IsLeast from test x
  found_least l m e = record { high = l; multiple = m; passes = e; least = λ y h k t. go y h k t (cases_lt y x) }
    where
      go : (y : ℕ) → from ≤ y → y % 16 ≡ 0 → test y ≡ true → (y < x) ⊎ (x ≤ y) → x ≤ y
      go y h k t (inl lt) = absurd (both_ways (test y) (weaker y (none y h lt k)) t)
      go y h k t (inr ge) = ge

-- a test with four parts by two of them
without : (a b c d e : Bool) → (c && e) ≡ false → (a && (b && (c && (d && e)))) ≡ false
without true true true true e f = f
without true true true false e f = refl
without true true false d e f = refl
without true false c d e f = refl
without false b c d e f = refl

without_first : (a b : Bool) → a ≡ false → (a && b) ≡ false
without_first true b e = cc
without_first false b e = refl

without_last : (a b : Bool) → b ≡ false → (a && b) ≡ false
without_last true b e = e
without_last false b e = refl

-- nothing stands in the way of a local at an address
abbrev pub is_place_clear : List Object → List (List Item) → (i size align x : ℕ) → Bool
is_place_clear os buffers i size align x = (x % align == 0) && (objects_lifted x size (slice_index_or buffers i []) os && pending_ok x size i buffers)

-- blocks, where no Lift counts
or_none : (b : Bool) → (b || false) ≡ b
or_none true = refl
or_none false = refl

unlifted : (os : List Object) (x size : ℕ) → objects_lifted x size [] os ≡ list_all (λ o. not (meets o.base o.size x size)) os
unlifted [] x size = refl
unlifted (o ∷ os) x size =
    ap (λ z. z && objects_lifted x size [] os) (or_none (not (meets o.base o.size x size)))
    ∙ ap (λ z. not (meets o.base o.size x size) && z) (unlifted os x size)

module _ (os : List Object) (size : ℕ) where
  pub block_unclear : (x : ℕ) → objects_lifted x size [] os ≡ false → is_block_allowed os x size ≡ false
  block_unclear x e =
      let clear : list_all (λ o. not (meets o.base o.size x size)) os ≡ false = sym (unlifted os x size) ∙ e in
      without_last (x % 16 == 0) (nat_le 0x30000000 x && (nat_le (x + size) 0x90000000 && list_all (λ o. not (meets o.base o.size x size)) os))
      (without_last (nat_le 0x30000000 x) (nat_le (x + size) 0x90000000 && list_all (λ o. not (meets o.base o.size x size)) os)
      (without_last (nat_le (x + size) 0x90000000) (list_all (λ o. not (meets o.base o.size x size)) os) clear))

  pub block_clear : (x : ℕ) → x % 16 ≡ 0 → 0x30000000 ≤ x → x + size ≤ 0x90000000 → objects_lifted x size [] os ≡ true → is_block_allowed os x size ≡ true
  block_clear x m l h e =
      all (x % 16 == 0) (nat_le 0x30000000 x) (nat_le (x + size) 0x90000000) (list_all (λ o. not (meets o.base o.size x size)) os) (eq-eqb (x % 16) 0 m) (le-leb 0x30000000 x l) (le-leb (x + size) 0x90000000 h) (sym (unlifted os x size) ∙ e)
    where
      all : (a b c d : Bool) → a ≡ true → b ≡ true → c ≡ true → d ≡ true → (a && (b && (c && d))) ≡ true
      all true true true d f g k n = n
      all true true false d f g k n = k
      all true false c d f g k n = g
      all false b c d f g k n = f
