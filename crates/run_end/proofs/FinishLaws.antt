-- After the actions: what the code sees of a cycle tells the stop, or the state entered. Assumes nothing.
use mathlib.Core.Bool.{true}
use mathlib.Core.List.{List}
use mathlib.Core.Option.{Option, none}
use mathlib.Core.Path.{◌≡◌, sym, ap, ◌∙◌}
use Prim.Native.Nat.{ℕ}
use lib.ListN.{length}
use Rattle.language.specs.Acting as T
use Rattle.language.specs.Description.{Description, sequencing_of, state_at}
use Rattle.language.specs.Meaning.{no_state_value}
use Rattle.language.specs.Step as S
use Rattle.language.specs.Store.{Held, StoreWords, from_bytes}
use Rattle.language.specs.declared.stops.Stop.{Stop}
use Rattle.run_stores.specs.declared.doing.Doing.{Doing}
use Rattle.run_next.proofs.NextLaws.{next-seen, record-seen, stop-seen}
use Rattle.run_next.specs.Seen.{next_seen, record_seen, stop_seen}
use Rattle.run_end.specs.Stepped.{Landed, counted}

module _ (d : Description) (r : S.Record) (c : T.Doing Held) (g : Doing) (B : List ℕ) (l : Landed d g B c) where
  -- q is the state whose value the sequencing register has, where that matters.
  module _ (q : Option ℕ) (k : c.sequenced ≡ true → q ≡ S.sequenced_state d (from_bytes d.facilities B)) where
    borne-so : c.sequenced ≡ true → q ≡ S.sequenced_state d (S.landed d r c)
    borne-so e = k e ∙ ap (S.sequenced_state d) (sym l.lands)

    pub stop-so : stop_seen (length d.states) r g q ≡ S.stop_after d r c
    stop-so = stop-seen d r c g l.sees q borne-so

    pub record-so : (next : ℕ) → next ≡ next_seen r g q → {after : S.Record} → after ≡ record_seen r g next → after ≡ S.next_record d r c
    record-so next e f = f ∙ record-seen d r c g l.sees next (e ∙ next-seen d r c g l.sees q borne-so)

  pub finished-so : {x : Option Stop} → x ≡ S.stop_after d r c → S.finished d r c ≡ S.or_stopped d r c x
  unfolding S.finished
  finished-so e = ap (S.or_stopped d r c) (sym e)

  -- The state entered.
  module _ (after : S.Record) (p : after ≡ S.next_record d r c) where
    set_so : {x : S.Entered} → x ≡ S.set_register d (sequencing_of d) (state_at d after.state).value (from_bytes d.facilities B)
        → x ≡ S.set_register d (sequencing_of d) (state_at d (S.next_record d r c).state).value (S.landed d r c)
    set_so e =
        e
        ∙ (ap (λ (n : S.Record). S.set_register d (sequencing_of d) (state_at d n.state).value (from_bytes d.facilities B)) p
        ∙ ap (S.set_register d (sequencing_of d) (state_at d (S.next_record d r c).state).value) (sym l.lands))

    pub entered-none : S.Entered.stuck no_state_value ≡ S.set_register d (sequencing_of d) (state_at d after.state).value (from_bytes d.facilities B) → S.stuck no_state_value ≡ counted (S.or_stopped d r c none)
    entered-none e = ap (λ (x : S.Entered). counted (S.entered d r c x)) (set_so e)

    pub entered-some : {A : StoreWords} → S.into A ≡ S.set_register d (sequencing_of d) (state_at d after.state).value (from_bytes d.facilities B) → S.completed A after g.conflicts ≡ counted (S.or_stopped d r c none)
    entered-some e = rw (p, l.counts) (ap (λ (x : S.Entered). counted (S.entered d r c x)) (set_so e))
