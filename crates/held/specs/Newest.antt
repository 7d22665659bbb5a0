-- What is left when the newest item goes.
use Rattle.std.specs.Prelude.{◌≡◌, List, [], ◌∷◌, ◌++◌, Some, None, Option}

-- the newest is told, and the others are left; where there is none, nothing has changed
abbrev pub Parted : {T : Type 0} → List T → Option T → List T → Type 0
Parted before (Some newest) after = before ≡ after ++ newest ∷ []
Parted before None after = (before ≡ []) × (after ≡ [])
