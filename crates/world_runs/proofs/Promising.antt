-- What is promised of a world by what it shows is agreement and origin at each of its points.
use Rattle.world_laws.specs.Agreement.{AgreementLaw}
use Rattle.world_laws.specs.Origin.{OriginLaw}
use Rattle.world_runs.specs.Promised.{Promised}
use Rattle.world_runs.specs.Showing.{Shown}

pub promised : AgreementLaw → OriginLaw → (shown : Shown) → Promised shown
promised agrees origin shown = record {
  agrees = λ marking start now run begins shows none fresh. agrees marking start shown.events now run begins none fresh;
  origin = λ marking start now run begins shows none fresh. origin marking start shown.events now run begins none fresh;
}
