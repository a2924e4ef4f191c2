-- Proper placements and the opening of a machine (an address map of this project: functions from 0x08000000, globals from 0x20000000 on).
use Rattle.std.specs.Prelude.{◌≡◌, ℕ, ◌+◌, ◌-◌, ◌%◌, ◌≤◌, false, List, [], ◌∷◌, Contains, AllPairs, All, IsSomeAnd, ◌⊎◌, fold, if◌then◌else◌, slice_index_or}
use Rattle.tso_words.specs.declared.value.Cell.TheVariants.{Blank, Byte}
use Rattle.tso_memory.specs.declared.object.Kind.TheVariants.{Static}
use Rattle.tso_memory.specs.Memory.{MemoryMeaning, is_in, inserted}
use Rattle.tso_core.specs.declared.offer.Now.TheVariants as N
use Rattle.tso_core.specs.Systems.{Names, Places, GlobalsOf}
use Rattle.tso_core.specs.Placing.{address_of, base_of}
use Rattle.tso_core.specs.Shared.{Shared}

-- a function's address, and a global's range with its alignment
abbrev pub IsCodePlace : Places → Names → Type 0
IsCodePlace at f = IsSomeAnd (address_of at f) (λ a. (0x08000000 ≤ a) × (a ≤ 0x1FFFFFFF))

abbrev pub IsDataPlace : Places → Names × ℕ × ℕ × List ℕ → Type 0
IsDataPlace at o = IsSomeAnd (address_of at o.0) (λ a. (0x20000000 ≤ a) × (a + o.1 ≤ 0x30000000) × (a % o.2 ≡ 0))

abbrev pub AreApart : Places → Names × ℕ × ℕ × List ℕ → Names × ℕ × ℕ × List ℕ → Type 0
AreApart at o r = (base_of at o.0 + o.1 ≤ base_of at r.0) ⊎ (base_of at r.0 + r.1 ≤ base_of at o.0)

-- a placement is proper for a program: each defined function has an address of its own, and the ranges of the globals are disjoint
pub record IsProper (g : GlobalsOf) (at : Places) : Type 0 where
  pub functions_placed : All (IsCodePlace at) g.functions
  pub functions_apart : (f h : Names) → Contains g.functions f → Contains g.functions h → address_of at f ≡ address_of at h → f ≡ h
  pub objects_placed : All (IsDataPlace at) g.objects
  pub objects_apart : AllPairs (AreApart at) g.objects

-- memory with one more global: its first bytes, and zeros behind them
abbrev pub with_global : Places → MemoryMeaning → Names × ℕ × ℕ × List ℕ → MemoryMeaning
with_global at m o =
    let base = base_of at o.0 in
    record {
      objects = inserted (record { base = base; size = o.1; kind = Static }) m.objects;
      cells = λ x. if is_in base o.1 x then Byte (slice_index_or o.3 (x - base) 0) else m.cells x;
    }

abbrev pub opening_memory : GlobalsOf → Places → MemoryMeaning
opening_memory g at = fold (with_global at) (record { objects = []; cells = λ x. Blank }) g.objects

-- main alone, with an empty buffer
abbrev pub opening : GlobalsOf → Places → Shared
opening g at = record { memory = opening_memory g at; buffers = [] ∷ []; ended = λ j. false; now = N.Running }
