-- The settings in the buffer of a running selection: those that are read from it are held by it, and those that DEFINE lines put there are read
-- from it again. Assumes nothing.
use Prim.Native.Nat.{ℕ, zero, suc, ◌+◌, ◌*◌, ◌/◌, ◌%◌, ◌≤◌}
use native.Mathlib.Omega.{arith}
use mathlib.Core.Path.{◌≡◌, refl, sym, ap, ◌∙◌}
use mathlib.Core.Bool.{Bool, true, false}
use mathlib.Core.List.{List, [], ◌∷◌, map}
use lib.ListN.{length, take, drop, length-drop, length-map}
use lib.Seq.{length-take-le, take-add, take_all}
use lib.Dec.{eqb, leb}
use borrow.Author.Tests.{eq-eqb, eqb-true, le-leb, leb-true}
use Rattle.units.specs.declared.Dialect.{Dialect}
use Rattle.text.specs.Bytes.{pick}
use Rattle.text.specs.Order.{equal}
use Rattle.text.proofs.Laws.{and_left, and_right}
use Rattle.settings.specs.Table.{records_in, records, well_formed}
use Rattle.own.specs.Own.{Own, record_of, name_in, records_of, put}
use Rattle.own.specs.Putting.{Holds}
use Rattle.own.proofs.Records.{own_records}
use Rattle.define.specs.Define.{sets, definition_of}
use Rattle.define.proofs.MacroNames.{line_own_name, own_name_in}
use Rattle.define.proofs.Sets.{line_record}
use Rattle.progress.specs.Reading.{is_setting, are_settings, used_of, own_of, own_in}
use Rattle.progress.proofs.ReadRecord.{record_again, own_again}

-- a setting whose record is one that a DEFINE line can make, and is read as this setting
pub record Good (x : Own) : Type 0 where
  pub setting : is_setting (record_of x) ≡ true
  pub again : own_of (record_of x) ≡ x

abbrev pub AllGood : List Own → Type 0
AllGood [] = Unit
AllGood (x ∷ o) = Good x × AllGood o

is_table : (r : List ℕ) → is_setting r ≡ true → well_formed r ≡ true
unfolding is_setting
is_table r f = and_left (well_formed r) _ f

-- the setting of a record that a DEFINE line can make
read_good : (r : List ℕ) → length r ≡ 128 → is_setting r ≡ true → Good (own_of r)
read_good r long e =
    let same = record_again r long (is_table r e) in
    record { setting = rw same e; again = ap own_of same }

-- the first n records of s are those of the settings that are read from them
records_again : (n : ℕ) (s : List ℕ) → 128 * n ≤ length s → are_settings (records_in n s) ≡ true
    → (records_of (map own_of (records_in n s)) ≡ take (128 * n) s) × AllGood (map own_of (records_in n s))
unfolding records_in are_settings records_of
records_again zero s h e = (refl, tt)
records_again (suc n) s h e =
    let first = and_left (is_setting (take 128 s)) _ e in
    let long : length (take 128 s) ≡ 128 = length-take-le 128 s (omega arith) in
    let good = read_good (take 128 s) long first in
    let rest = records_again n (drop 128 s) (omega (arith, length-drop 128 s)) (and_right (is_setting (take 128 s)) _ e) in
    let more : 128 * suc n ≡ 128 + 128 * n = omega arith in
    let same : record_of (own_of (take 128 s)) ≡ take 128 s = record_again (take 128 s) long (is_table (take 128 s) first) in
    (rw (more, same, rest.0) (sym (take-add 128 (128 * n) s)), (good, rest.1))

records_many : (n : ℕ) (s : List ℕ) → length (records_in n s) ≡ n
unfolding records_in
records_many zero s = refl
records_many (suc n) s = ap suc (records_many n (drop 128 s))

-- what is read from a buffer
module _ (used : ℕ) (b : List ℕ) (whole : length b ≡ 8192) where
  -- the settings are the first bytes of the buffer
  pub record Reads : Type 0 where
    pub held : Holds b (used_of used b) (own_in used b)
    pub good : AllGood (own_in used b)
    pub few : used_of used b ≤ 8192

  all_read : used % 128 ≡ 0 → used ≤ 8192 → are_settings (records (take used b)) ≡ true → used_of used b ≡ used → Reads
  all_read m l s u =
      let long : length (take used b) ≡ used = length-take-le used b (omega arith) in
      let n : ℕ = used / 128 in
      let size : 128 * n ≡ used = omega arith in
      let there : are_settings (records_in n (take used b)) ≡ true = rw long at s in
      let back = records_again n (take used b) (omega arith) there in
      let bytes : take used b ≡ records_of (map own_of (records_in n (take used b))) =
      sym (back.0 ∙ rw size (take_all used (take used b) (omega arith))) in
      let many : length (map own_of (records_in n (take used b))) ≡ n = length-map (records_in n (take used b)) own_of ∙ records_many n (take used b) in
      record {
        held = rw (u, long) (record { bytes = bytes; size = rw many (sym size) });
        good = rw (u, long) back.1;
        few = omega arith;
      }

  none_read : used_of used b ≡ 0 → Reads
  unfolding records_in records_of
  none_read u = record { held = rw u (record { bytes = refl; size = refl }); good = rw u tt; few = omega arith }

  pub reads : Reads
  unfolding used_of
  reads = by (eqb (used % 128) 0) (leb used 8192) (are_settings (records (take used b))) refl refl refl
    where
      by : (x y z : Bool) → eqb (used % 128) 0 ≡ x → leb used 8192 ≡ y → are_settings (records (take used b)) ≡ z → Reads
      by true true true p q r = all_read (eqb-true _ _ p) (leb-true _ _ q) r (rw (p, q, r))
      by true true false p q r = none_read (rw (p, q, r))
      by true false z p q r = none_read (rw (p, q))
      by false y z p q r = none_read (rw p)

-- settings that are held are read again
all_settings : (o : List Own) → AllGood o → are_settings (map record_of o) ≡ true
unfolding are_settings
all_settings [] g = refl
all_settings (x ∷ o) g = rw g.0.setting (all_settings o g.1)

all_again : (o : List Own) → AllGood o → map own_of (map record_of o) ≡ o
all_again [] g = refl
all_again (x ∷ o) g = rw (g.0.again, all_again o g.1)

pub read_back : (used : ℕ) (b : List ℕ) (o : List Own) → used ≤ 8192 → Holds b used o → AllGood o → own_in used b ≡ o
unfolding used_of
read_back used b o few h g =
    let are : records (take used b) ≡ map record_of o = rw h.bytes (own_records o) in
    let whole : eqb (used % 128) 0 ≡ true = eq-eqb (used % 128) 0 (omega (arith, h.size)) in
    rw (whole, le-leb used 8192 few, are, all_settings o g) (ap (map own_of) are ∙ all_again o g)

-- a setting that is put among good ones
pub put_good : (x : Own) (o : List Own) → Good x → AllGood o → AllGood (put x o)
unfolding put
put_good x [] g h = (g, tt)
put_good x (y ∷ o) g h = by (equal (name_in y) x.name) (put_good x o g h.1)
  where
    by : (t : Bool) → AllGood (put x o) → AllGood (pick t (x ∷ o) (y ∷ put x o))
    by true r = (g, h.1)
    by false r = (h.0, r)

-- the setting of a DEFINE line
pub line_good : (o : List Own) (x : Own) (k : ℕ) (t l : List ℕ) (δ : Dialect) → definition_of o t l δ ≡ sets x k → Good x
unfolding is_setting
line_good o x k t l δ e =
    let name = line_own_name o x k t l δ e in
    let under : name_in x ≡ x.name = own_name_in x name in
    let table = line_record o x k t l δ e in
    record { setting = rw (table, under, eq-eqb _ _ name.whole); again = own_again x under table }
