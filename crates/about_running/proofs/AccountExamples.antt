-- The account of small descriptions, worked out by hand: which actions their first cycle executes, and what it meets. Each holds only if the definitions of the account compute to this very course.
use Rattle.std.specs.Prelude.{List, [], ◌∷◌, ◌≡◌, refl, ℕ}
use Rattle.std.proofs.Math.Option.{none}
use Rattle.language.specs.Computing.{computing}
use Rattle.language.specs.Description as D
use Rattle.language.specs.Description.{Action, Description, Facility, Node, bounds}
use Rattle.language.specs.Kinds.{delayed_sign, equal_sign}
use Rattle.language.specs.Meaning.{place}
use Rattle.language.specs.Reading.{legal, read_text}
use Rattle.language.specs.Scan.{bytes}
use Rattle.language.specs.Step.{open_record}
use Rattle.language.specs.Store.{zero_words}
use Rattle.language.specs.Tree.{register, sequencing}
use Rattle.language.specs.Value.{value}
use Rattle.about_running.specs.Account as Account
use Rattle.about_running.specs.Account.{End, Executed, Met, number_for, outside, within}
use Rattle.about_running.proofs.OneAccount.{one-course, over-apart}
use Rattle.about_running.specs.Conditions.{Cycle, any_of, held_after, how_many, plain_given}

-- ---- REGISTER A[4], I[3], B. One operation, X; one state, P, which carries it out and stays.

unfoldable vector : ℕ → ℕ → Facility
vector letter last = record { name = letter ∷ []; kind = register; dimensions = 1; words = bounds 0 0; bits = bounds 1 last; expression = 0 }

unfoldable flag : ℕ → Facility
flag letter = record { name = letter ∷ []; kind = register; dimensions = 0; words = bounds 0 0; bits = bounds 0 0; expression = 0 }

unfoldable machine : List Node → List Action → ℕ → Description
machine es xs n =
    record {
      facilities = vector 65 4 ∷ vector 73 3 ∷ flag 66 ∷ [];
      operations = record { name = 88 ∷ []; body = record { first = 0; count = n } } ∷ [];
      expressions = es;
      actions = xs;
      states = record { name = 80 ∷ []; value = none; actions = record { first = n; count = 2 } } ∷ [];
    }

-- The first cycle from opening.
abbrev First : Description → List Executed → End → Type 0
First d es e = Cycle d (zero_words d.facilities) (open_record d) [] es e

-- ---- A subscript outside its bounds in the arm that is not chosen is not come to.

unfoldable unchosen : Description
unchosen =
    machine
    (D.whole 2 ∷ D.whole 2 ∷ D.whole 1 ∷ D.one 0 2 ∷ D.first_arm 3 ∷ D.constant (value 1 1) ∷ D.next_arm 4 5 ∷ D.choice 1 6 2 ∷ [])
    (D.store delayed_sign 0 7 ∷ D.perform 0 ∷ D.goto 0 ∷ []) 1

unchosen-read : read_text (bytes "REGISTER A[4],I[3],B. OPERATION X=[B<-IF B THEN A[I] ELSE 1B1 ENDIF]. CONTROL P: X,->P/.") ≡ legal unchosen
unfolding computing vector flag machine unchosen
unchosen-read = refl

unchosen-runs : First unchosen (Account.delayed (number_for (place 2 0 0 1) 1 ∷ []) ∷ Account.goes 0 ∷ []) Account.over
unfolding computing vector flag machine unchosen Account.computed_subscripts Account.place_at Account.stands
unchosen-runs =
    Account.one_by_one {es = Account.delayed (number_for (place 2 0 0 1) 1 ∷ []) ∷ []} {fs = Account.goes 0 ∷ []}
    (Account.performs (Account.one_by_one {es = Account.delayed (number_for (place 2 0 0 1) 1 ∷ []) ∷ []} {fs = []}
    (Account.store (Account.left-side refl (Account.named Account.all_lie) (Account.right_side (Account.chosen (Account.reads_whole (Account.loaded refl (Account.named Account.all_lie))) Account.last-for-zero refl Account.constant))))
    Account.nothing))
    (Account.one_by_one {es = Account.goes 0 ∷ []} {fs = []} Account.goto Account.nothing)

-- So no subscript is met.
unchosen-none : {es : List Executed} {o : Met} → First unchosen es (Account.met o) → ⊥
unchosen-none h = over-apart (one-course _ _ unchosen-runs h).ended

-- ---- Of two subscripts outside their bounds the left side's is met.

unfoldable both-outside : Description
both-outside = machine (D.whole 1 ∷ D.one 0 0 ∷ D.whole 2 ∷ D.one 0 2 ∷ []) (D.store delayed_sign 1 3 ∷ D.perform 0 ∷ D.goto 0 ∷ []) 1

both_read : read_text (bytes "REGISTER A[4],I[3],B. OPERATION X=[A[I]<-A[B]]. CONTROL P: X,->P/.") ≡ legal both-outside
unfolding computing vector flag machine both-outside
both_read = refl

both_meet : First both-outside [] (Account.met (outside (within 0 (bounds 1 4)) (value 3 0)))
unfolding computing vector flag machine both-outside Account.computed_subscripts Account.place_at
both_meet =
    Account.first-meets (Account.performs (Account.first-meets (Account.store-meets (Account.left-side-meets refl
    (Account.subscripts-meet (Account.lies-outside (Account.reads_whole (Account.loaded refl (Account.named Account.all_lie))) refl))))))

-- ---- A subscript is met before the store that would make it fit.

unfoldable too-early : Description
too-early =
    machine (D.whole 2 ∷ D.whole 1 ∷ D.one 0 1 ∷ D.whole 1 ∷ D.constant (value 3 1) ∷ []) (D.store delayed_sign 0 2 ∷ D.store equal_sign 3 4 ∷ D.perform 0 ∷ D.goto 0 ∷ []) 2

too-early-read : read_text (bytes "REGISTER A[4],I[3],B. OPERATION X=[B<-A[I],I=3D1]. CONTROL P: X,->P/.") ≡ legal too-early
unfolding computing vector flag machine too-early
too-early-read = refl

too-early-meets : First too-early [] (Account.met (outside (within 1 (bounds 1 4)) (value 3 0)))
unfolding computing vector flag machine too-early Account.computed_subscripts Account.place_at
too-early-meets =
    Account.first-meets (Account.performs (Account.first-meets (Account.store-meets (Account.later-side-meets refl (Account.named Account.all_lie) (Account.right-side-meets
    (Account.reads-one (Account.place-meets (Account.subscripts-meet (Account.lies-outside (Account.reads_whole (Account.loaded refl (Account.named Account.all_lie))) refl)))))))))

-- ---- `=` lands at once, so that the subscript fits; `<-` waits, so that it does not.

unfoldable in-time : ℕ → Description
in-time sign =
    machine (D.whole 1 ∷ D.constant (value 3 1) ∷ D.whole 2 ∷ D.whole 1 ∷ D.one 0 3 ∷ []) (D.store sign 0 1 ∷ D.store delayed_sign 2 4 ∷ D.perform 0 ∷ D.goto 0 ∷ []) 2

in-time-read : read_text (bytes "REGISTER A[4],I[3],B. OPERATION X=[I=3D1,B<-A[I]]. CONTROL P: X,->P/.") ≡ legal (in-time equal_sign)
unfolding computing vector flag machine in-time
in-time-read = refl

in-time-runs : First (in-time equal_sign) (Account.immediate (number_for (place 1 0 0 3) 1 ∷ []) ∷ Account.delayed (number_for (place 2 0 0 1) 0 ∷ []) ∷ Account.goes 0 ∷ []) Account.over
unfolding computing vector flag machine in-time Account.computed_subscripts Account.place_at Account.put_each Account.stands
in-time-runs =
    Account.one_by_one {es = Account.immediate (number_for (place 1 0 0 3) 1 ∷ []) ∷ Account.delayed (number_for (place 2 0 0 1) 0 ∷ []) ∷ []} {fs = Account.goes 0 ∷ []}
    (Account.performs (Account.one_by_one {es = Account.immediate (number_for (place 1 0 0 3) 1 ∷ []) ∷ []} {fs = Account.delayed (number_for (place 2 0 0 1) 0 ∷ []) ∷ []}
    (Account.store (Account.left-side refl (Account.named Account.all_lie) (Account.right_side Account.constant)))
    (Account.one_by_one {es = Account.delayed (number_for (place 2 0 0 1) 0 ∷ []) ∷ []} {fs = []}
    (Account.store (Account.left-side refl (Account.named Account.all_lie) (Account.right_side
    (Account.reads-one (Account.loaded refl (Account.named (Account.lies (Account.reads_whole (Account.loaded refl (Account.named Account.all_lie))) refl Account.all_lie)))))))
    Account.nothing)))
    (Account.one_by_one {es = Account.goes 0 ∷ []} {fs = []} Account.goto Account.nothing)

too-late-meets : First (in-time delayed_sign) (Account.delayed (number_for (place 1 0 0 3) 1 ∷ []) ∷ []) (Account.met (outside (within 3 (bounds 1 4)) (value 3 0)))
unfolding computing vector flag machine in-time Account.computed_subscripts Account.place_at Account.stands
too-late-meets =
    Account.first-meets (Account.performs (Account.one_by_one {es = Account.delayed (number_for (place 1 0 0 3) 1 ∷ []) ∷ []} {fs = []}
    (Account.store (Account.left-side refl (Account.named Account.all_lie) (Account.right_side Account.constant)))
    (Account.first-meets (Account.store-meets (Account.later-side-meets refl (Account.named Account.all_lie) (Account.right-side-meets
    (Account.reads-one (Account.place-meets (Account.subscripts-meet (Account.lies-outside (Account.reads_whole (Account.loaded refl (Account.named Account.all_lie))) refl))))))))))

-- ---- What is counted: stores to the sequencing register count once together, -> besides; a RETURN takes its own off before a call.

unfoldable sequencer : Description
sequencer =
    record {
      facilities = record { name = 81 ∷ []; kind = sequencing; dimensions = 1; words = bounds 0 0; bits = bounds 1 2; expression = 0 } ∷ [];
      operations = [];
      expressions = [];
      actions = [];
      states = [];
    }

abbrev to_q : ℕ → Executed
to_q n = Account.delayed (number_for (place 0 0 0 2) n ∷ [])

count-once : plain_given sequencer (to_q 1 ∷ to_q 2 ∷ []) ≡ 1
unfolding computing sequencer how_many any_of Account.to_register
count-once = refl

count-besides : plain_given sequencer (to_q 1 ∷ Account.goes 0 ∷ []) ≡ 2
unfolding computing sequencer how_many any_of Account.to_register
count-besides = refl

room-for-call : held_after (record { state = 0; cycle = 0; held = 16; returns = [] }) (Account.calls 0 ∷ Account.returns ∷ []) ≡ 15
unfolding how_many
room-for-call = refl
