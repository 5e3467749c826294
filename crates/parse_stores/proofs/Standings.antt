-- Where reading actions stands, from where it stood.
use mathlib.Core.Bool.{Bool, true, false}
use mathlib.Core.List.{List}
use mathlib.Core.Path.{◌≡◌, sym, ap, ◌∙◌, subst}
use Prim.Native.Nat.{ℕ, ◌≤◌}
use native.Mathlib.Omega.{arith}
use borrow.Author.Tests.{le-leb, leb-true}
use lib.Dec.{leb}
use lib.ListN.{length}
use Rattle.parse_step.proofs.Ceilings.{both_true, by-nesting, few-open}
use Rattle.parse_step.specs.declared.Bearing.{Bearing}
use Rattle.parse_step.specs.declared.State.{State}
use Rattle.parse_step.specs.Course.{Seen, counts_of}
use Rattle.parse_step.specs.Says.{Here}
use Rattle.parse_step.specs.Taken.{Passed, after_word, tally_of}
use Rattle.language.specs.Machine.{Counts, within_ceilings}
use Rattle.language.specs.Ceilings.{deepest, most_counted, most_facilities, most_operations, most_states}
use Rattle.language.specs.Naming.{Scope}
use Rattle.language.specs.Tree.{Actions}
use Rattle.parse_tables.specs.declared.meaning.KnownNames as M
use Rattle.text_words.specs.declared.Word.{Word}
use Rattle.parse_tables.specs.Names.{facility_names}
use Rattle.parse_array.specs.Layout.{work_size}
use Rattle.parse_stores.proofs.Keeping.{known_kept}
use Rattle.parse_stores.specs.Actions.{Paid, Standing, Written}
use Rattle.language.specs.Tests.{both}
use Rattle.parse_step.specs.declared.Reached.{Reached}

-- ---- Ceilings.

pub first_three : (c : Counts) → within_ceilings c ≡ true → (c.facilities ≤ 256) × (c.operations ≤ 128) × (c.states ≤ 256)
unfolding within_ceilings most_facilities most_operations most_states most_counted deepest
first_three c e =
    let last = both (leb c.counted 2048) (leb c.nesting 24) in
    let a = both_true (leb c.facilities 256) (both (leb c.operations 128) (both (leb c.states 256) last)) e in
    let b = both_true (leb c.operations 128) (both (leb c.states 256) last) a.1 in
    let d = both_true (leb c.states 256) last b.1 in
    (leb-true c.facilities 256 a.0, leb-true c.operations 128 b.0, leb-true c.states 256 d.0)

pub few-operations : (c : Counts) → within_ceilings c ≡ true → c.operations ≤ 128
few-operations c e = (first_three c e).1

pub few-states : (c : Counts) → within_ceilings c ≡ true → c.states ≤ 256
few-states c e = (first_three c e).2

-- More was counted, and no more than there may be.
pub within_more : (c d : Counts) → within_ceilings c ≡ true → d.facilities ≡ c.facilities → d.operations ≡ c.operations → d.states ≡ c.states → d.counted ≤ 2048 → d.nesting ≡ c.nesting
    → within_ceilings d ≡ true
within_more c d e f o s k n =
    let t = first_three c e in
    sym (by-nesting d (omega (arith, t.0)) (omega (arith, t.1)) (omega (arith, t.2)) k) ∙ le-leb d.nesting 24 (omega (arith, few-open c e))

-- ---- Standing.

module _ {text : List ℕ} {sc : Scope} {n : M.KnownNames} {w : Word} {s : State} {acts : ℕ} {work : List ℕ} where
  pub here_of : Standing text sc n w s acts work → Here text sc w s work
  here_of st = record { seen = st.seen; names = st.known.facilities ∙ ap (facility_names text work) st.facilities }

  pub standing-passed : (counts : Bool) (b : Bearing) {a : Reached} → Standing text sc n w s acts work → Passed text w (after_word counts b s) s a → Standing text sc n a.next a.state acts work
  standing-passed counts b {a} st p =
      let k : s.counted ≤ a.state.counted = omega (arith, more counts, ap (λ (c : Counts). c.counted) p.counts) in
      let t : a.state.states ≡ s.states = ap (λ (c : Counts). c.states) p.counts in
      record {
        seen = p.seen;
        short = st.short;
        whole = st.whole;
        within = ap within_ceilings p.counts ∙ p.fits;
        known = st.known;
        facilities = st.facilities ∙ sym p.kept.known;
        nodes = omega (arith, st.nodes, p.kept.nodes);
        actions = omega (arith, st.actions);
      }
    where
      more : (z : Bool) → s.counted ≤ tally_of s.counted z
      more true = omega arith
      more false = omega arith

  -- Behind a list of actions.
  pub standing-after : {a : Actions} {w' : Word} {s' : State} {work' : List ℕ} → Standing text sc n w s acts work → Written sc a s work s' work' → Paid s acts s' → Seen text w'
      → length work' ≡ work_size → within_ceilings (counts_of s') ≡ true → Standing text sc n w' s' s'.actions work'
  standing-after {work' = work'} st x p z l c = record {
    seen = z;
    short = st.short;
    whole = l;
    within = c;
    known = known_kept work' x.tables st.known;
    facilities = st.facilities ∙ sym p.known;
    nodes = omega (arith, st.nodes, p.nodes, p.states, p.counted);
    actions = omega (arith, st.actions, p.actions);
  }

-- Behind a word, with the action records that are written there.
pub standing-word : {text : List ℕ} {sc : Scope} {n : M.KnownNames} {w : Word} {s : State} {work : List ℕ} (counts : Bool) (b : Bearing) {a : Reached} → Standing text sc n w s s.actions work
    → Passed text w (after_word counts b s) s a → Standing text sc n a.next a.state a.state.actions work
standing-word {text} {sc} {n} {work = work} counts b {a} st p =
    subst (λ (m : ℕ). Standing text sc n a.next a.state m work) (sym p.kept.actions) (standing-passed counts b st p)
