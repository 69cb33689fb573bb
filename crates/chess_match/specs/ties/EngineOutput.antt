-- What came from an engine so far, and which bytes of it are held (read, but not yet returned as lines); and what one
-- act more does to both.
use Rattle.std.specs.Prelude.{◌≡◌, ◌⊎◌, ℕ, Bool, false, List, ◌++◌, map, Option}
use Rattle.std.specs.Bool.{MatchBool}
use Rattle.std.specs.Io.KnownBytes.{Consumes}
use Rattle.byte_devices.specs.Devices.{InputState}
use Rattle.chess_base.specs.declared.man.Colour.{Colour}
use Rattle.chess_base.specs.Men.{same_colour}
use Rattle.text_lines.specs.Lines.{LineSeen, Held, stream_lines, lines_held}
use Rattle.text_lines.specs.Next.{GotLine, GotLast, GotNone, GotFault, GotSilence}
use Rattle.chess_match.specs.Acts.{Act, Happens}
use Rattle.chess_match.specs.Events.{Line, Silent, OutputEnds, FailsToRead}
use Rattle.chess_match.specs.Run.{text_read}
use Rattle.chess_match.specs.declared.run.TheConstants.{ENGINE_LINE_LEN}

-- from the state `old` of an engine's output to `new` the bytes `given` came; of their lines `texts` were returned, and
-- the rest is `held`; no end was reported, and no read failed
pub record OutputSoFar (old new : InputState) (held : Held) (given : List ℕ) (texts : List (Option (List ℕ))) : Type 0
  where
    pub bytes : Consumes old.known_bytes new.known_bytes given
    pub lines : (outputs : List LineSeen) × (map text_read outputs ≡ texts)
        × ((at_end : Bool) (rest : List ℕ) → stream_lines ENGINE_LINE_LEN at_end (given ++ rest) ≡ outputs
        ++ lines_held ENGINE_LINE_LEN at_end held rest)
    pub ends : new.end_count ≡ old.end_count
    pub failures : new.failure_count ≡ old.failure_count

-- from `old` to `new` the bytes `given` came, and all their lines, `texts`, were returned; then the output ended, or a
-- read failed
pub record OutputEnded (old new : InputState) (given : List ℕ) (texts : List (Option (List ℕ))) : Type 0 where
  pub bytes : Consumes old.known_bytes new.known_bytes given
  pub lines : (outputs : List LineSeen) × (map text_read outputs ≡ texts)
      × (stream_lines ENGINE_LINE_LEN false given ≡ outputs)

-- ---- one act more

-- the act took the output of the engine of the side `S` from `r` to `r'`; `held` and `held'` are the bytes of it that
-- were read and not yet returned, before and after. A line, an end, a failed read or a silence of `S` may have read
-- more bytes (`more`); any other act leaves both as they were
abbrev pub OutputAt : Colour → Act → InputState → InputState → Held → Held → Type 0
OutputAt S (Happens (Line c text moment)) r r' held held' =
    MatchBool (same_colour c S) ((more : List ℕ) × Consumes r.known_bytes r'.known_bytes more
    × (line : LineSeen) × GotLine ENGINE_LINE_LEN r r' held held' more line × (text ≡ text_read line))
    ((r' ≡ r) × (held' ≡ held))
OutputAt S (Happens (OutputEnds c)) r r' held held' =
    MatchBool (same_colour c S) ((more : List ℕ) × Consumes r.known_bytes r'.known_bytes more
    × (((line : LineSeen) × GotLast ENGINE_LINE_LEN r r' held held' more line)
    ⊎ GotNone ENGINE_LINE_LEN r r' held held' more)) ((r' ≡ r) × (held' ≡ held))
OutputAt S (Happens (FailsToRead c)) r r' held held' =
    MatchBool (same_colour c S) ((more : List ℕ) × Consumes r.known_bytes r'.known_bytes more
    × GotFault ENGINE_LINE_LEN r r' held held' more) ((r' ≡ r) × (held' ≡ held))
OutputAt S (Happens (Silent c moment)) r r' held held' =
    MatchBool (same_colour c S) ((more : List ℕ) × Consumes r.known_bytes r'.known_bytes more
    × GotSilence ENGINE_LINE_LEN r r' held held' more) ((r' ≡ r) × (held' ≡ held))
OutputAt S _ r r' held held' = (r' ≡ r) × (held' ≡ held)
