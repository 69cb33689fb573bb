-- Laws of the log of a match: its text can be read in only one way, and how its lines look.
use Rattle.std.specs.Prelude.{◌≡◌, ◌<◌, ◌^◌, ◌&&◌, ℕ, Bool, true, nat_le, List, [], ◌∷◌, ◌++◌, flat_map, map, codes, Some, None, Err}
use Prim.Native.String.{String as Text}
use Rattle.std.specs.Borrow.{Bor}
use Rattle.std.specs.List.{AllByRecursion, list_all}
use Rattle.byte_devices.specs.Bytes.{byte, tab}
use Rattle.chess_base.specs.declared.man.Colour.{Colour}
use Rattle.chess_base.specs.declared.man.Colour.TheVariants.{White, Black}
use Rattle.chess_match.specs.Events.{Line, Opened, Silent, OutputEnds, FailsToRead, FailsToWrite}
use Rattle.chess_match.specs.Notes.{Note, Happened, Gives}
use Rattle.match_runner.specs.Games.{killed_line, killed_lines, report_of}
use Rattle.match_runner.specs.declared.fault.GamesFault.TheVariants.{WriteFailed, NoMemory, CanNotStart, Game}
use Rattle.match_runner.specs.Log.{engine_name, lines_in, log_from, log_line, moment_after, note_text}

-- ---- the lines of a log as records

-- a line of a log: what `log_line` writes
pub record Entry : Type 0 where
  -- a reading of the clock in milliseconds, or 0 if it was not yet read
  pub moment : ℕ
  -- the byte `<`, `>` or `!`
  pub mark : ℕ
  -- the side of the engine
  pub side : Colour
  -- the line that was sent, without its `\n`; with the mark `!` what happened, such as `read failed`
  pub text : List ℕ

-- these lines as they are written. `first_side` is the side of the engine of `--white`
abbrev pub entries_text : Colour → List Entry → List ℕ
entries_text first_side entries =
    flat_map (λ e. log_line e.moment e.mark (engine_name first_side e.side) e.text) entries

-- the log's lines for a note, as records; `note_text` is the text of these lines. `moment` is what the clock showed
-- last before the note
abbrev pub note_entries : ℕ → Note → List Entry
note_entries moment (Happened (Line c (Some text) now)) =
    record { moment = now; mark = byte "<"; side = c; text = text } ∷ []
note_entries moment (Happened (Line c None now)) =
    record { moment = now; mark = byte "!"; side = c; text = codes "line too long" } ∷ []
note_entries moment (Happened (Opened c now)) = []
note_entries moment (Happened (Silent c now)) =
    record { moment = now; mark = byte "!"; side = c; text = codes "no line" } ∷ []
note_entries moment (Happened (OutputEnds c)) =
    record { moment = moment; mark = byte "!"; side = c; text = codes "output ended" } ∷ []
note_entries moment (Happened (FailsToRead c)) =
    record { moment = moment; mark = byte "!"; side = c; text = codes "read failed" } ∷ []
note_entries moment (Happened (FailsToWrite c)) =
    record { moment = moment; mark = byte "!"; side = c; text = codes "write failed" } ∷ []
note_entries moment (Gives c bytes) =
    map (λ text. record { moment = moment; mark = byte ">"; side = c; text = text }) (lines_in bytes)

-- the log's lines for these notes; `moment` is what the clock showed last before them, or 0
abbrev pub entries_from : ℕ → List Note → List Entry
entries_from moment [] = []
entries_from moment (n ∷ notes) = note_entries moment n ++ entries_from (moment_after moment n) notes

-- ---- one reading

-- whether a byte is printable ASCII
abbrev pub is_printable : ℕ → Bool
is_printable b = nat_le 32 b && nat_le b 126

-- the log shows this line as it is: its text is of printable ASCII (and its milliseconds are a u64)
abbrev pub IsShown : Entry → Type 0
IsShown e = (e.moment < 2 ^ 64) × (list_all is_printable e.text ≡ true)

-- a log can be read in only one way: if two lists of lines that it shows as they are have the same text, they are the
-- same. `first` is the side of the engine of `--white`
abbrev pub LogsHaveOneReading : Type 0
LogsHaveOneReading = (first : Colour) (xs ys : List Entry) → AllByRecursion IsShown xs → AllByRecursion IsShown ys
    → entries_text first xs ≡ entries_text first ys → xs ≡ ys

-- ---- lines worked out

-- of this note the log has these lines, if the first engine has White, and the clock showed 312 before
abbrev pub IsLogged : Note → Text → Type 0
IsLogged note text = note_text (engine_name White) 312 note ≡ codes text

-- how the lines of a log look, and those that a match writes to standard error besides
pub record LogLinesLook : Type 0 where
  pub line : IsLogged (Happened (Line White (Some (codes "move e2e4")) 400)) "400 <first : move e2e4\n"
  pub given : IsLogged (Gives Black (codes "new\nforce\n")) "312 >second: new\n312 >second: force\n"
  pub too_long : IsLogged (Happened (Line White None 400)) "400 !first : line too long\n"
  pub silent : IsLogged (Happened (Silent Black 400)) "400 !second: no line\n"
  pub opened : IsLogged (Happened (Opened White 400)) ""
  pub ended : IsLogged (Happened (OutputEnds Black)) "312 !second: output ended\n"
  pub unread : IsLogged (Happened (FailsToRead White)) "312 !first : read failed\n"
  pub unwritten : IsLogged (Happened (FailsToWrite White)) "312 !first : write failed\n"
  -- a byte that is not printable ASCII
  pub shown : IsLogged (Happened (Line White (Some (codes "a" ++ tab ∷ codes "b")) 400)) "400 <first : a?b\n"
  -- an engine that was killed after the third game
  pub killed : killed_line 3 Black ≡ codes "arbiter: game 3: Black did not exit, and was killed\n"
  pub both_killed : killed_lines 1 (record { white = true; black = true }) ≡ codes
      "arbiter: game 1: White did not exit, and was killed\narbiter: game 1: Black did not exit, and was killed\n"
  -- in a game in which the first engine has Black
  pub first_has_black : note_text (engine_name Black) 312 (Happened (Line Black (Some (codes "move e7e5")) 400))
      ≡ codes "400 <first : move e7e5\n"
  -- a line that is sent has the moment that the clock showed last: that of a line, of an opening or of a silence
  pub after_line : log_from White 0 (Happened (Line White (Some (codes "pong 2")) 400) ∷ Gives Black (codes "go\n") ∷ [])
      ≡ codes "400 <first : pong 2\n400 >second: go\n"
  pub after_opening : log_from White 0 (Happened (Opened White 500) ∷ Gives White (codes "draw\n") ∷ [])
      ≡ codes "500 >first : draw\n"
  pub after_silence : log_from White 0 (Happened (Silent White 600) ∷ Gives White (codes "quit\n") ∷ [])
      ≡ codes "600 !first : no line\n600 >first : quit\n"
  -- on standard error: why a match was not played to its end
  pub no_output : report_of (Err WriteFailed) ≡ codes "arbiter: write failed\n"
  pub no_memory : report_of (Err NoMemory) ≡ codes "arbiter: no memory\n"
  pub not_started : (command : Bor (List ℕ)) → command.now ≡ codes "sjeng"
      → report_of (Err (CanNotStart command)) ≡ codes "arbiter: can not start sjeng\n"
  pub faulty : (comment : Bor (List ℕ)) → comment.now ≡ codes "White has no ping"
      → report_of (Err (Game 3 comment)) ≡ codes "arbiter: game 3: White has no ping\n"
