-- Links that wait.
use Rattle.std.specs.Prelude.{Bool, true, ◌&&◌, not, List, [], ◌∷◌}

-- none of the links is closed
abbrev pub none_closed : {L : Type 0} → (L → Bool) → List L → Bool
none_closed closed [] = true
none_closed closed (link ∷ links) = not (closed link) && none_closed closed links
