-- How the struct of a running selection is read: any numbers and any bytes are one. A number above what a run can reach is read as the largest
-- that one can, and settings that no DEFINE line can make are read as no settings.
use Rattle.std.specs.Prelude.{ℕ, ◌*◌, ◌%◌, Bool, true, not, ◌&&◌, List, [], ◌∷◌, map, length, take, drop, eqb, ltb, leb}
use Rattle.text.specs.Bytes.{pick}
use Rattle.text.specs.Names.{macro_name}
use Rattle.settings.specs.Table.{records, name_of, kind_byte, length_byte, well_formed}
use Rattle.own.specs.Own.{Own}
use Rattle.groups.specs.Rules.{MAX_GROUPS}
use Rattle.groups.specs.Stack.{denote_selection}
use Rattle.select.specs.Select.{MAX_FILE, MAX_LINES}
use Rattle.following.specs.Feeding.{Progress, progress}
use Rattle.progress.specs.declared.Running.{Running}

-- a number, but not above a limit
abbrev pub clip : (limit n : ℕ) → ℕ
clip limit n = pick (ltb limit n) limit n

-- the numbers: at most 16 groups, 65,536 bytes and 4,096 lines, and at most 199 operators for each line
abbrev pub lines_of : Running → ℕ
lines_of x = clip MAX_LINES x.fed

abbrev pub in_range : Running → Running
in_range x =
    record {
      selection = record {
        depth = clip MAX_GROUPS x.selection.depth;
        count = clip (199 * lines_of x) x.selection.count;
        states = x.selection.states;
        lines = x.selection.lines;
      };
      bytes = clip MAX_FILE x.bytes;
      fed = lines_of x;
      ended = x.ended;
      used = x.used;
    }

-- a record that a DEFINE line can make: by itself a well-formed table, under the name of a macro
unfoldable pub is_setting : List ℕ → Bool
is_setting r = well_formed r && eqb (macro_name (name_of r)) (length (name_of r))

unfoldable pub are_settings : List (List ℕ) → Bool
are_settings [] = true
are_settings (r ∷ rs) = is_setting r && are_settings rs

-- how many bytes of the buffer hold settings: `used` if that is a number of whole records that fit and are settings, else none
unfoldable pub used_of : (used : ℕ) → (buffer : List ℕ) → ℕ
used_of used b = pick (eqb (used % 128) 0 && (leb used 8192 && are_settings (records (take used b)))) used 0

-- the setting of a record, and the settings in a buffer
abbrev pub own_of : List ℕ → Own
own_of r = record { name = name_of r; kind = kind_byte r; content = take (length_byte r) (drop 72 r) }

abbrev pub own_in : (used : ℕ) → (buffer : List ℕ) → List Own
own_in used b = map own_of (records (take (used_of used b) b))

-- the struct x, with its buffer of settings b
abbrev pub progress_in : Running → (b : List ℕ) → Progress
progress_in x b =
    progress (denote_selection (in_range x).selection (own_in x.used b)) (in_range x).bytes (lines_of x) (not (eqb x.ended 0))
