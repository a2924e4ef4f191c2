-- A table that has each register finds the one of a name.
use Rattle.std.proofs.Common.{◌≡◌, ◌≢◌, ◌⊎◌, ℕ, List, [], ◌∷◌, refl, sym, ◌∙◌, ap, Bool, true, false, cond, Option, Some, None, inl, inr}
use Rattle.std.specs.Prelude.{bytes_eq, find, MatchOption}
use Rattle.std.proofs.lemmas.Bool.{false≢true}
use Rattle.std.proofs.lemmas.Slice.Eq.{bytes_eq-Decides}
use Rattle.x86_lines.specs.declared.register_names.TheConstants.{REGISTERS, BYTES, HALVES, INDEXES}
use Rattle.x86_table.specs.declared.register.Register.{Register}
use Rattle.x86_table.specs.declared.register.Register.TheVariants as word
use Rattle.x86_table.specs.declared.register.ByteRegister.{ByteRegister}
use Rattle.x86_table.specs.declared.register.ByteRegister.TheVariants as byte
use Rattle.x86_table.specs.declared.register.HalfRegister.{HalfRegister}
use Rattle.x86_table.specs.declared.register.HalfRegister.TheVariants as half
use Rattle.x86_table.specs.declared.register.IndexRegister.{IndexRegister}
use Rattle.x86_table.specs.declared.register.IndexRegister.TheVariants as index

-- the value stands in the list
abbrev pub StandsIn : {X : Type 0} → X → List X → Type 0
StandsIn x [] = ⊥
StandsIn x (y ∷ ys) = (x ≡ y) ⊎ StandsIn x ys

abbrev pub Names : {X : Type 0} → (X → List ℕ) → List ℕ → Option X → Type 0
Names {X} text word r = MatchOption r ((x : X) → word ≢ text x) (λ x. word ≡ text x)

missing_at : {X : Type 0} (text : X → List ℕ) (word : List ℕ) (x : X) (y : X) (ys : List X) (found : Bool) → bytes_eq (text y) word ≡ found → cond found (Some y) (find (λ z. bytes_eq (text z) word) ys) ≡ None → (StandsIn x ys → word ≢ text x) → StandsIn x (y ∷ ys) → word ≢ text x
missing_at text word x y ys true e h more s = absurd (let k : Some y ≡ None = h in cc)
missing_at text word x y ys false e h more (inl same) = λ is. false≢true (sym e ∙ (bytes_eq-Decides (text y) word).1 (sym (is ∙ ap text same)))
missing_at text word x y ys false e h more (inr s) = more s

missing_more : {X : Type 0} (text : X → List ℕ) (word : List ℕ) (y : X) (ys : List X) (found : Bool) → cond found (Some y) (find (λ z. bytes_eq (text z) word) ys) ≡ None → find (λ z. bytes_eq (text z) word) ys ≡ None
missing_more text word y ys true h = absurd (let k : Some y ≡ None = h in cc)
missing_more text word y ys false h = h

missing : {X : Type 0} (text : X → List ℕ) (word : List ℕ) (xs : List X) (x : X) → find (λ z. bytes_eq (text z) word) xs ≡ None → StandsIn x xs → word ≢ text x
missing text word [] x h s = absurd s
missing text word (y ∷ ys) x h s = missing_at text word x y ys (bytes_eq (text y) word) refl h (missing text word ys x (missing_more text word y ys (bytes_eq (text y) word) h)) s

present_at : {X : Type 0} (text : X → List ℕ) (word : List ℕ) (x : X) (y : X) (ys : List X) (found : Bool) → bytes_eq (text y) word ≡ found → cond found (Some y) (find (λ z. bytes_eq (text z) word) ys) ≡ Some x → (find (λ z. bytes_eq (text z) word) ys ≡ Some x → word ≡ text x) → word ≡ text x
present_at text word x y ys true e h more = let same : y ≡ x = let k : Some y ≡ Some x = h in cc in sym ((bytes_eq-Decides (text y) word).0 e) ∙ ap text same
present_at text word x y ys false e h more = more h

present : {X : Type 0} (text : X → List ℕ) (word : List ℕ) (xs : List X) (x : X) → find (λ z. bytes_eq (text z) word) xs ≡ Some x → word ≡ text x
present text word [] x h = absurd (let k : None ≡ Some x = h in cc)
present text word (y ∷ ys) x h = present_at text word x y ys (bytes_eq (text y) word) refl h (present text word ys x)

names_at : {X : Type 0} (text : X → List ℕ) (word : List ℕ) (xs : List X) (found : Option X) → find (λ z. bytes_eq (text z) word) xs ≡ found → ((x : X) → StandsIn x xs) → Names text word found
names_at text word xs None e all = λ x. missing text word xs x e (all x)
names_at text word xs (Some x) e all = present text word xs x e

pub names_of : {X : Type 0} (text : X → List ℕ) (word : List ℕ) (xs : List X) (r : Option X) → ((x : X) → StandsIn x xs) → r ≡ find (λ z. bytes_eq (text z) word) xs → Names text word r
names_of text word xs r all e = names_at text word xs r (sym e) all

-- each register is in its table
pub all_registers : (r : Register) → StandsIn r REGISTERS
all_registers word.Eax = inl refl
all_registers word.Ebx = inr (inl refl)
all_registers word.Ecx = inr (inr (inl refl))
all_registers word.Edx = inr (inr (inr (inl refl)))
all_registers word.Esi = inr (inr (inr (inr (inl refl))))
all_registers word.Edi = inr (inr (inr (inr (inr (inl refl)))))
all_registers word.Ebp = inr (inr (inr (inr (inr (inr (inl refl))))))
all_registers word.Esp = inr (inr (inr (inr (inr (inr (inr (inl refl)))))))

pub all_bytes : (r : ByteRegister) → StandsIn r BYTES
all_bytes byte.Al = inl refl
all_bytes byte.Bl = inr (inl refl)
all_bytes byte.Cl = inr (inr (inl refl))
all_bytes byte.Dl = inr (inr (inr (inl refl)))

pub all_halves : (r : HalfRegister) → StandsIn r HALVES
all_halves half.Ax = inl refl
all_halves half.Bx = inr (inl refl)
all_halves half.Cx = inr (inr (inl refl))
all_halves half.Dx = inr (inr (inr (inl refl)))
all_halves half.Si = inr (inr (inr (inr (inl refl))))
all_halves half.Di = inr (inr (inr (inr (inr (inl refl)))))
all_halves half.Bp = inr (inr (inr (inr (inr (inr (inl refl))))))

pub all_indexes : (r : IndexRegister) → StandsIn r INDEXES
all_indexes index.Eax = inl refl
all_indexes index.Ebx = inr (inl refl)
all_indexes index.Ecx = inr (inr (inl refl))
all_indexes index.Edx = inr (inr (inr (inl refl)))
all_indexes index.Esi = inr (inr (inr (inr (inl refl))))
all_indexes index.Edi = inr (inr (inr (inr (inr (inl refl)))))
all_indexes index.Ebp = inr (inr (inr (inr (inr (inr (inl refl))))))
