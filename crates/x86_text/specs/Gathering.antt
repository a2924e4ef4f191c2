-- What the code keeps of the lines so far; names are not looked at.
use Rattle.std.specs.Prelude.{◌≡◌, Bool, true, false, Option, Some, None}
use Rattle.x86_text.specs.declared.gathering.Gathering as gathering
use Rattle.x86_text.specs.Text.{Gathered}

-- what the code keeps
abbrev pub gathered_of : gathering.Gathering → Gathered
gathered_of g = record { in_data = g.in_data; has_pace = g.has_pace; parts = g.parts }

-- whether a line was added
abbrev pub AddsAs : Bool → Option Gathered → Gathered → Type 0
AddsAs true o g = o ≡ Some g
AddsAs false o g = o ≡ None
