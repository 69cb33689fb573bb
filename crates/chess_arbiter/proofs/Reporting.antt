-- A match without a fault reports none: the error output stays as its logs left it.
use Rattle.std.proofs.Common.{false, [], refl}
use Rattle.byte_devices.specs.Transfers.{nothing}
use Rattle.byte_devices.proofs.shared.Transfers.{took_nothing}
use Rattle.match_runner.specs.Log.{LogSeen}
use Rattle.chess_arbiter.specs.Program.{Reports}

pub reports_nothing : (l : LogSeen) → Reports [] l l
reports_nothing l = (refl, (false, (λ e. refl, λ e. refl, λ e. (nothing, took_nothing l.output, refl))))
