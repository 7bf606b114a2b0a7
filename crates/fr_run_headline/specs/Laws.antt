-- The laws of the crates below on which the laws of storage servers in runs rest.
use Rattle.fr_mutation.specs.Law.{ValueAfterLaw, ClipLaw}
use Rattle.fr_tags.specs.SplitLaw.{ClipsMakeThePartFromNothing}
use Rattle.fr_tags.specs.CoverLaw.{HolderIsLeft}
use Rattle.fr_state.specs.Laws.{NextTells, SourceIsNone, DropKeepsSource}
use Rattle.fr_log.specs.Law.{NotRemovedAbove}
use Rattle.fr_storage.specs.Law.{PeekedKeepsState, MarkedKeepsTag, MarkedRefused, PeekedRefused, MarkedFollows, PeekedFollows, MarkedBreaks, PeekedBreaks, FirstFollows, FollowsOn}
use Rattle.fr_storage.specs.Laws as storage
use Rattle.fr_run_headline.specs.ContentsLaws as contents

pub record Laws : Type 0 where
  pub contents : contents.Laws
  pub stores : storage.Laws
  pub next_tells : NextTells
  pub source_none : SourceIsNone
  pub keeps_source : DropKeepsSource
  pub holder_left : HolderIsLeft
  pub values : ValueAfterLaw
  pub clips : ClipLaw
  pub from_nothing : ClipsMakeThePartFromNothing
  pub not_removed : NotRemovedAbove
  pub keeps_state : PeekedKeepsState
  pub keeps_tag : MarkedKeepsTag
  pub marked_refused : MarkedRefused
  pub peeked_refused : PeekedRefused
  pub marked : MarkedFollows
  pub peeked : PeekedFollows
  pub marked_breaks : MarkedBreaks
  pub peeked_breaks : PeekedBreaks
  pub first : FirstFollows
  pub on : FollowsOn
