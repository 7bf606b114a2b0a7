-- Where a node stands, with the rows of a storage server or without them.
use Rattle.std.specs.Prelude.{Bool, true, false}
use Rattle.fr_ask.specs.declared.last.Last.{Last}
use Rattle.fr_ask.specs.declared.last.Last.TheVariants as last
use Rattle.fr_node.specs.declared.stand.Stand.{Stand}
use Rattle.fr_node.specs.declared.stand.Stand.TheVariants as stand

-- its state, but of a storage server only if all is asked for
abbrev pub stand_of : Bool → Last → Stand
stand_of true l = stand.Whole l
stand_of false (last.Storage epoch version floor rows) = stand.Storage epoch version floor
stand_of false l = stand.Whole l
