-- Where reading actions stands with other records, and that there is room for more.
use mathlib.Core.List.{List}
use mathlib.Core.Path.{◌≡◌}
use Prim.Native.Nat.{ℕ, ◌*◌, ◌≤◌}
use native.Mathlib.Omega.{arith}
use lib.ListN.{length}
use Rattle.parse_step.proofs.Ceilings.{few-counted}
use Rattle.parse_step.specs.declared.State.{State}
use Rattle.parse_step.specs.Gained.{with_action_count}
use Rattle.parse_step.specs.Course.{counts_of}
use Rattle.language.specs.Naming.{Scope}
use Rattle.parse_tables.specs.declared.meaning.KnownNames.{KnownNames}
use Rattle.parse_stores.proofs.Keeping.{known_kept}
use Rattle.parse_stores.proofs.Standings.{few-states}
use Rattle.parse_stores.specs.Actions.{OthersKept, Standing}
use Rattle.text_words.specs.declared.Word.{Word}
use Rattle.parse_array.specs.Layout.{most_nodes, work_size}

module _ {text : List ℕ} {sc : Scope} {n : KnownNames} {w : Word} {s : State} {acts : ℕ} {work : List ℕ} where
  pub standing-kept : {work' : List ℕ} → Standing text sc n w s acts work → OthersKept work work' → length work' ≡ work_size → Standing text sc n w s acts work'
  standing-kept {work'} st o l = record {
    seen = st.seen;
    short = st.short;
    whole = l;
    within = st.within;
    known = known_kept work' o st.known;
    facilities = st.facilities;
    nodes = st.nodes;
    actions = st.actions;
  }

  -- Another number of action records.
  pub standing-acts : (m : ℕ) → Standing text sc n w s acts work → m ≤ 2 * s.counted → Standing text sc n w s m work
  standing-acts m st h = record { seen = st.seen; short = st.short; whole = st.whole; within = st.within; known = st.known; facilities = st.facilities; nodes = st.nodes; actions = h }

  -- A state that counts another number of them.
  pub standing-counted : (k : ℕ) → Standing text sc n w s acts work → Standing text sc n w (with_action_count s k) acts work
  standing-counted k st = record { seen = st.seen; short = st.short; whole = st.whole; within = st.within; known = st.known; facilities = st.facilities; nodes = st.nodes; actions = st.actions }

  -- There is room.
  pub few-actions : Standing text sc n w s acts work → acts ≤ 4096
  few-actions st = omega (arith, st.actions, few-counted (counts_of s) st.within)

  pub few-nodes : Standing text sc n w s acts work → s.nodes ≤ most_nodes
  few-nodes st = omega (arith, st.nodes, few-counted (counts_of s) st.within, few-states (counts_of s) st.within)
