-- Whether a page has room.
-- Assumes nothing.
use Rattle.std.proofs.Common.{◌≡◌, ℕ, ◌+◌, List, ◌++◌, length, length-append}

-- what a writer appends to a page
pub appended : (q p t : List ℕ) → q ≡ p ++ t → length q ≡ length p + length t
appended q p t e = rw (e, length-append)

pub ruleset room = (appended, length-append)
