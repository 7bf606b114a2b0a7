-- The bytes that the records of a log's asks leave free.
use Rattle.std.specs.Prelude.{ℕ}
use Rattle.fr_log.specs.declared.ask.LogAsk.{LogAsk}
use Rattle.fr_log.specs.declared.ask.LogAsk.TheVariants.{Push}

-- a push leaves 4,096 bytes free, and every other ask may use them
abbrev pub spare_log : LogAsk → ℕ
spare_log (Push p) = 4096
spare_log ask = 0
