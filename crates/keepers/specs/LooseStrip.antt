-- The codes of a loose strip. Assumes nothing.
use Rattle.std.specs.Prelude.{ℕ, List}
use Rattle.keepers.specs.declared.loose.LooseStrip.{LooseStrip}
use Rattle.keepers.specs.Shortness.{AllShort}

-- the codes that a loose strip keeps
abbrev pub kept_codes : LooseStrip → List ℕ
kept_codes strip = strip.kept.now

-- they are few enough for a keeper, by what the strip's type keeps
pub kept_short : AllShort kept_codes
kept_short strip = strip.few
