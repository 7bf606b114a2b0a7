-- The laws of the crates below on which the laws of contents rest.
use Rattle.fr_tags.specs.SplitLaw.{HeldTagsHaveTheirClips}
use Rattle.fr_tail.specs.Copied.{NewIsCopied, HearCopies, CompleteIsCopied, SeedHasCopied}
use Rattle.fr_log.specs.Law.{SweptRecords}
use Rattle.fr_run.specs.Laws as history

pub record Laws : Type 0 where
  pub nodes : history.Laws
  pub clips : HeldTagsHaveTheirClips
  pub copy_starts : NewIsCopied
  pub copy_hears : HearCopies
  pub copy_complete : CompleteIsCopied
  pub copy_seeds : SeedHasCopied
  pub left_records : SweptRecords
