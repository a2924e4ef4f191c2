-- That the objects of locals are well kept: the oldest item of each buffer is safe to apply (of this project; the memory of both machines is flat, so it is the allowed places that keep objects apart).
use Rattle.std.specs.Prelude.{◌≡◌, ℕ, true, false, List, [], ◌∷◌}
use Rattle.std.specs.List.{list_any}
use Rattle.tso_memory.specs.declared.object.Object.{Object}
use Rattle.tso_memory.specs.declared.buffer.Item.{Item}
use Rattle.tso_memory.specs.declared.buffer.Item.TheVariants.{Put, Place, Lift}
use Rattle.tso_memory.specs.Memory.{is_met, is_at}
use Rattle.tso_core.specs.Shared.{Shared, buffer_of}

-- no live object meets the range of a Place, and the object of a Lift is live
abbrev pub IsSafe : List Object → List Item → Type 0
IsSafe os [] = Unit {0}
IsSafe os (Put chunk addr val ∷ is) = Unit {0}
IsSafe os (Place base size ∷ is) = list_any (is_met base size) os ≡ false
IsSafe os (Lift base size ∷ is) = list_any (is_at base size) os ≡ true

abbrev pub AreSafe : Shared → Type 0
AreSafe sh = (i : ℕ) → IsSafe sh.memory.objects (buffer_of sh i)
