-- What take and open are checked for behind the admission of a server, in the rows of their lists.
-- Assumes nothing.
use Rattle.std.specs.Prelude.{ℕ, List, [], ◌∷◌}
use Rattle.fate.specs.declared.Fate.{Fate}
use Rattle.cluster.specs.declared.Server.{Server}
use Rattle.cluster.specs.declared.Register.{Register}
use Rattle.cluster.specs.Refusals.{Row, row, seen, only_opening, wrong_phase, is_cut, undecided, vote_mark, too_few_clean, session_at_top, session_differs}

-- take's, behind its phase
abbrev pub take_rows : Register → Fate → List Row
take_rows g f = row 6 (is_cut f) ∷ seen f 21 (session_at_top g.session) ∷ []

-- open's, of server v among r replicas
abbrev pub open_rows : Register → Server → ℕ → Fate → List Row
open_rows g v r f =
    row 5 (wrong_phase only_opening v)
    ∷ row 6 (is_cut f)
    ∷ row 8 (undecided r v)
    ∷ row 9 (too_few_clean r v (vote_mark r v))
    ∷ seen f 22 (session_differs g v)
    ∷ []
