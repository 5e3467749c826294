-- Counts within the ceilings.
use mathlib.Core.Bool.{Bool, true, false, true≢false}
use mathlib.Core.Path.{◌≡◌, refl, sym}
use Prim.Native.Nat.{◌<◌, ◌≤◌}
use borrow.Author.Tests.{le-leb, leb-true, lt-leb}
use lib.Dec.{leb}
use Rattle.language.specs.Machine.{Counts, within_ceilings}
use Rattle.language.specs.Ceilings.{deepest, most_counted, most_facilities, most_operations, most_states}
use Rattle.language.specs.Tests.{both}

module _ (c : Counts) where
  pub many-facilities : 256 < c.facilities → false ≡ within_ceilings c
  unfolding within_ceilings most_facilities
  many-facilities h = rw (lt-leb c.facilities 256 h)

  pub many-operations : c.facilities ≤ 256 → 128 < c.operations → false ≡ within_ceilings c
  unfolding within_ceilings most_facilities most_operations
  many-operations f h = rw (le-leb c.facilities 256 f, lt-leb c.operations 128 h)

  pub many-states : c.facilities ≤ 256 → c.operations ≤ 128 → 256 < c.states → false ≡ within_ceilings c
  unfolding within_ceilings most_facilities most_operations most_states
  many-states f o h = rw (le-leb c.facilities 256 f, le-leb c.operations 128 o, lt-leb c.states 256 h)

  module _ (f : c.facilities ≤ 256) (o : c.operations ≤ 128) (s : c.states ≤ 256) where
    pub many-counted : 2048 < c.counted → false ≡ within_ceilings c
    unfolding within_ceilings most_facilities most_operations most_states most_counted
    many-counted h = rw (le-leb c.facilities 256 f, le-leb c.operations 128 o, le-leb c.states 256 s, lt-leb c.counted 2048 h)

    pub by-nesting : c.counted ≤ 2048 → leb c.nesting 24 ≡ within_ceilings c
    unfolding within_ceilings most_facilities most_operations most_states most_counted deepest
    by-nesting h = rw (le-leb c.facilities 256 f, le-leb c.operations 128 o, le-leb c.states 256 s, le-leb c.counted 2048 h)

pub both_true : (a b : Bool) → both a b ≡ true → (a ≡ true) × (b ≡ true)
both_true true b e = (refl, e)
both_true false b e = absurd (true≢false (sym e))

last-two : (c : Counts) → within_ceilings c ≡ true → (leb c.counted 2048 ≡ true) × (leb c.nesting 24 ≡ true)
unfolding within_ceilings most_facilities most_operations most_states most_counted deepest
last-two c e =
    let counted = leb c.counted 2048 in
    let nesting = leb c.nesting 24 in
    let states = both (leb c.states 256) (both counted nesting) in
    let a : states ≡ true = (both_true (leb c.operations 128) states (both_true (leb c.facilities 256) (both (leb c.operations 128) states) e).1).1 in
    both_true counted nesting (both_true (leb c.states 256) (both counted nesting) a).1

pub few-counted : (c : Counts) → within_ceilings c ≡ true → c.counted ≤ 2048
few-counted c e = leb-true c.counted 2048 (last-two c e).0

pub few-open : (c : Counts) → within_ceilings c ≡ true → c.nesting ≤ 24
few-open c e = leb-true c.nesting 24 (last-two c e).1
