-- The result is what the definition `fen_reading_as` reads. If this is a position, the text denotes it (clause found;
-- denoted-reading of DenotedFen) and it is the one that the text denotes (clause only; reading-denoted); if a fault, it
-- is true of the text (clause fault; faulty), and a fault that is true is this one (clause refused; fault-read).
use Rattle.std.proofs.Common.{◌≡◌, Result, Ok, Err, List, ℕ, sym, ◌∙◌, IfOk, IfErr}
use Rattle.chess_base.specs.{declared.man.Variant.Variant, declared.setup.Setup.Setup, Sound.IsSound, declared.fen_fault.FenFault.FenFault}
use Rattle.chess_fen.specs.{Reading.fen_reading_as, Denotation.DenotesFenAs, FenFaults.IsFaultAs}
use Rattle.chess_fen.proofs.DenotedFen.{denoted-reading, faulty, fault-read, reading-denoted}
use Rattle.chess_fen.proofs.reading.read_fen_as.Goals as goal

-- a position that is read is denoted by the text, and sound
read : (v : Variant) (text : List ℕ) (r : Result Setup FenFault) → r ≡ fen_reading_as v text → IfOk r IsSound
    → IfOk r (λ p. DenotesFenAs v text p × IsSound p)
read v text (Ok p) e h = (denoted-reading v text p (sym e), h)
read v text (Err f) e h = tt

-- a fault that is read is true of the text
said : (v : Variant) (text : List ℕ) (r : Result Setup FenFault) → r ≡ fen_reading_as v text
    → IfErr r (IsFaultAs v text)
said v text (Ok p) e = tt
said v text (Err f) e = faulty v text f (sym e)

pub returns-clause-found : goal.returns-clause-found
returns-clause-found c = read c.args.variant c.args.text.now c.denoted_position.result c.denoted_position.ensures.value
    c.denoted_position.ensures.sound

pub returns-clause-only : goal.returns-clause-only
returns-clause-only c = λ p s h. c.denoted_position.ensures.value ∙ reading-denoted c.args.variant c.args.text.now p s h

pub returns-clause-fault : goal.returns-clause-fault
returns-clause-fault c = said c.args.variant c.args.text.now c.denoted_position.result c.denoted_position.ensures.value

pub returns-clause-refused : goal.returns-clause-refused
returns-clause-refused c = λ f h. c.denoted_position.ensures.value ∙ fault-read c.args.variant c.args.text.now f h
