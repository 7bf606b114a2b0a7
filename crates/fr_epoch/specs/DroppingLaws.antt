-- What is left of a parent once what was shown let generations drop.
use Rattle.std.specs.Prelude.{◌≡◌, ℕ, ◌+◌, ◌<◌, ◌≤◌, List, length, slice_get, Some, Contains}
use Rattle.fr_state.specs.Generations.{LogGeneration, CoordinatedState, IsCoordinatedState}
use Rattle.fr_state.specs.Order.{without_first}
use Rattle.fr_log.specs.declared.popped.PoppedTag.{PoppedTag}
use Rattle.fr_epoch.specs.Dropping.{least_shown, left_by}

-- some generation of each tag's logs is shown popped at least as far as the one that is left first starts, but for one version
pub record StartsLow (s : CoordinatedState) (shown : List PoppedTag) (tags : List ℕ) (number : ℕ) : Type 0 where
  pub least : ℕ
  pub is_least : least_shown shown tags ≡ Some least
  pub first : LogGeneration
  pub left : slice_get s.gens number ≡ Some first
  pub starts : first.first ≤ least + 1

-- what is left is the parent without some of the first generations, never all; if there are some, the one that is left
-- first starts at most one version above what every tag is shown popped through
pub record IsLeftBy (s : CoordinatedState) (shown : List PoppedTag) (tags : List ℕ) : Type 0 where
  pub number : ℕ
  pub fewer : number < length s.gens
  pub is : left_by s shown tags ≡ without_first s number
  pub starts : 1 ≤ number → StartsLow s shown tags number

abbrev pub LeftIsWithout : Type 0
LeftIsWithout = (s : CoordinatedState) (shown : List PoppedTag) (tags : List ℕ) → IsCoordinatedState s → IsLeftBy s shown tags

-- an entry of a tag that is popped at least so far
pub record IsShownFrom (shown : List PoppedTag) (tag least : ℕ) : Type 0 where
  pub entry : PoppedTag
  pub there : Contains shown entry
  pub tag_is : entry.tag ≡ tag
  pub high : least ≤ entry.version

-- the least over tags is shown of each of them
abbrev pub LeastIsShown : Type 0
LeastIsShown =
    (shown : List PoppedTag) (tags : List ℕ) (least tag : ℕ) → least_shown shown tags ≡ Some least → Contains tags tag → IsShownFrom shown tag least
