-- The account is one: what there is to work out comes to one result, and a list of actions executes one list, to one end. So what is met is the first that there is to meet. Assumes nothing.
use Rattle.std.specs.Prelude.{Bool, true, false, List, [], ◌≡◌, refl, ℕ}
use Rattle.std.proofs.Common.{sym, arith}
use Rattle.language.specs.Description.{Description}
use Rattle.language.specs.Meaning.{Place, Stores}
use Rattle.language.specs.Value.{Value}
use Rattle.about_running.specs.Account as Account
use Rattle.about_running.specs.Account.{Comes, End, Executed, Executes, Met, Result, Takes, Task, Work}

-- ---- Expressions.

pub worth-apart : {A : Type 0} {v : Value} {o : Met} → Account.worth v ≡ Account.meets o → A
worth-apart e = absurd (let z : ◌≡◌ {A = ℕ} 0 1 = cc in omega arith)

pub names_apart : {A : Type 0} {p : Place} {o : Met} → Account.names p ≡ Account.meets o → A
names_apart e = absurd (let z : ◌≡◌ {A = ℕ} 0 1 = cc in omega arith)

lie-apart : {A : Type 0} {ks : List ℕ} {o : Met} → Account.lie ks ≡ Account.meets o → A
lie-apart e = absurd (let z : ◌≡◌ {A = ℕ} 0 1 = cc in omega arith)

fixes_apart : {A : Type 0} {ps : List Place} {v : Value} {o : Met} → Account.fixes ps v ≡ Account.meets o → A
fixes_apart e = absurd (let z : ◌≡◌ {A = ℕ} 0 1 = cc in omega arith)

both_ways : {A : Type 0} {b : Bool} → b ≡ true → b ≡ false → A
both_ways e f = absurd (let z : ◌≡◌ {A = ℕ} 0 1 = cc in omega arith)

-- A value takes one arm.
one_arm : {n v m k : ℕ} → Takes n v m → Takes n v k → m ≡ k
one_arm (Account.by_number l h) (Account.by_number j k) = refl
one_arm (Account.by_number l h) Account.last-for-zero = absurd (omega arith)
one_arm Account.last-for-zero (Account.by_number j k) = absurd (omega arith)
one_arm Account.last-for-zero Account.last-for-zero = refl

-- The numbers of one value.
number-so : {v w : Value} → Account.worth v ≡ Account.worth w → v.number ≡ w.number
number-so e = cc

module _ {X : Type 0} (S : Stores X) (d : Description) (x : X) where
  pub one-result : {t : Task} {r q : Result} → Comes S d x t r → Comes S d x t q → r ≡ q
  one-result Account.constant Account.constant = refl
  one-result (Account.reads_whole h) (Account.reads_whole k) = one-result h k
  one-result (Account.reads-one h) (Account.reads-one k) = one-result h k
  one-result (Account.reads-part h) (Account.reads-part k) = one-result h k
  one-result (Account.reads_two h) (Account.reads_two k) = one-result h k
  one-result (Account.reads-word-part h) (Account.reads-word-part k) = one-result h k
  one-result (Account.binary h i e) (Account.binary j k f) = let a = one-result h j in let b = one-result i k in cc
  one-result (Account.binary h i e) (Account.left_meets j) = worth-apart (one-result h j)
  one-result (Account.binary h i e) (Account.right-meets j k) = worth-apart (one-result i k)
  one-result (Account.left_meets h) (Account.binary j k f) = worth-apart (sym (one-result h j))
  one-result (Account.left_meets h) (Account.left_meets j) = one-result h j
  one-result (Account.left_meets h) (Account.right-meets j k) = worth-apart (sym (one-result h j))
  one-result (Account.right-meets h i) (Account.binary j k f) = worth-apart (sym (one-result i k))
  one-result (Account.right-meets h i) (Account.left_meets j) = worth-apart (one-result h j)
  one-result (Account.right-meets h i) (Account.right-meets j k) = one-result i k
  one-result (Account.prefix h e) (Account.prefix k f) = let a = one-result h k in cc
  one-result (Account.prefix h e) (Account.prefix-meets k) = worth-apart (one-result h k)
  one-result (Account.prefix-meets h) (Account.prefix k f) = worth-apart (sym (one-result h k))
  one-result (Account.prefix-meets h) (Account.prefix-meets k) = one-result h k
  one-result (Account.cut h e) (Account.cut k f) = let a = one-result h k in cc
  one-result (Account.cut h e) (Account.cut-meets k) = worth-apart (one-result h k)
  one-result (Account.cut-meets h) (Account.cut k f) = worth-apart (sym (one-result h k))
  one-result (Account.cut-meets h) (Account.cut-meets k) = one-result h k
  one-result (Account.chosen {m = m} {g = g} h e f i) (Account.chosen {m = m'} {g = g'} j e' f' k) =
      let y : m' ≡ m = one_arm e' (rw (number-so (one-result h j)) at e) in
      let z : g' ≡ g = cc in
      one-result i (rw z at k)
  one-result (Account.chosen h e f i) (Account.condition-meets j) = worth-apart (one-result h j)
  one-result (Account.condition-meets h) (Account.chosen j e' f' k) = worth-apart (sym (one-result h j))
  one-result (Account.condition-meets h) (Account.condition-meets j) = one-result h j
  one-result (Account.loaded e h) (Account.loaded f k) = let a = one-result h k in cc
  one-result (Account.loaded e h) (Account.worked f k i) = both_ways f e
  one-result (Account.loaded e h) (Account.worked-meets f k i) = both_ways f e
  one-result (Account.loaded e h) (Account.place-meets k) = names_apart (one-result h k)
  one-result (Account.worked e h i) (Account.loaded f k) = both_ways e f
  one-result (Account.worked e h i) (Account.worked f k j) = let a = one-result h k in let b = one-result i j in cc
  one-result (Account.worked e h i) (Account.worked-meets f k j) = worth-apart (one-result i j)
  one-result (Account.worked e h i) (Account.place-meets k) = names_apart (one-result h k)
  one-result (Account.worked-meets e h i) (Account.loaded f k) = both_ways e f
  one-result (Account.worked-meets e h i) (Account.worked f k j) = worth-apart (sym (one-result i j))
  one-result (Account.worked-meets e h i) (Account.worked-meets f k j) = one-result i j
  one-result (Account.worked-meets e h i) (Account.place-meets k) = names_apart (one-result h k)
  one-result (Account.place-meets h) (Account.loaded f k) = names_apart (sym (one-result h k))
  one-result (Account.place-meets h) (Account.worked f k j) = names_apart (sym (one-result h k))
  one-result (Account.place-meets h) (Account.worked-meets f k j) = names_apart (sym (one-result h k))
  one-result (Account.place-meets h) (Account.place-meets k) = one-result h k
  one-result (Account.named h) (Account.named k) = let a = one-result h k in cc
  one-result (Account.named h) (Account.subscripts-meet k) = lie-apart (one-result h k)
  one-result (Account.subscripts-meet h) (Account.named k) = lie-apart (sym (one-result h k))
  one-result (Account.subscripts-meet h) (Account.subscripts-meet k) = one-result h k
  one-result Account.all_lie Account.all_lie = refl
  one-result (Account.lies h e i) (Account.lies j f k) = let a = one-result h j in let b = one-result i k in cc
  one-result (Account.lies h e i) (Account.within-meets j) = worth-apart (one-result h j)
  one-result (Account.lies h e i) (Account.lies-outside j f) = let a = one-result h j in absurd (let z : ◌≡◌ {A = ℕ} 0 1 = cc in omega arith)
  one-result (Account.lies h e i) (Account.later-meets j f k) = lie-apart (one-result i k)
  one-result (Account.within-meets h) (Account.lies j f k) = worth-apart (sym (one-result h j))
  one-result (Account.within-meets h) (Account.within-meets j) = one-result h j
  one-result (Account.within-meets h) (Account.lies-outside j f) = worth-apart (sym (one-result h j))
  one-result (Account.within-meets h) (Account.later-meets j f k) = worth-apart (sym (one-result h j))
  one-result (Account.lies-outside h e) (Account.lies j f k) = let a = one-result h j in absurd (let z : ◌≡◌ {A = ℕ} 0 1 = cc in omega arith)
  one-result (Account.lies-outside h e) (Account.within-meets j) = worth-apart (one-result h j)
  one-result (Account.lies-outside h e) (Account.lies-outside j f) = let a = one-result h j in cc
  one-result (Account.lies-outside h e) (Account.later-meets j f k) = let a = one-result h j in absurd (let z : ◌≡◌ {A = ℕ} 0 1 = cc in omega arith)
  one-result (Account.later-meets h e i) (Account.lies j f k) = lie-apart (sym (one-result i k))
  one-result (Account.later-meets h e i) (Account.within-meets j) = worth-apart (one-result h j)
  one-result (Account.later-meets h e i) (Account.lies-outside j f) = let a = one-result h j in absurd (let z : ◌≡◌ {A = ℕ} 0 1 = cc in omega arith)
  one-result (Account.later-meets h e i) (Account.later-meets j f k) = one-result i k
  one-result (Account.right_side h) (Account.right_side k) = let a = one-result h k in cc
  one-result (Account.right_side h) (Account.right-side-meets k) = worth-apart (one-result h k)
  one-result (Account.right-side-meets h) (Account.right_side k) = worth-apart (sym (one-result h k))
  one-result (Account.right-side-meets h) (Account.right-side-meets k) = one-result h k
  one-result (Account.left-side {r = r} e h i) (Account.left-side {r = r'} f j k) =
      let z : r' ≡ r = cc in
      let a = one-result h (rw z at j) in
      let b = one-result i k in
      cc
  one-result (Account.left-side {r = r} e h i) (Account.left-side-meets {r = r'} f j) = let z : r' ≡ r = cc in names_apart (one-result h (rw z at j))
  one-result (Account.left-side e h i) (Account.later-side-meets f j k) = fixes_apart (one-result i k)
  one-result (Account.left-side-meets {r = r} e h) (Account.left-side {r = r'} f j k) = let z : r' ≡ r = cc in names_apart (sym (one-result h (rw z at j)))
  one-result (Account.left-side-meets {r = r} e h) (Account.left-side-meets {r = r'} f j) = let z : r' ≡ r = cc in one-result h (rw z at j)
  one-result (Account.left-side-meets {r = r} e h) (Account.later-side-meets {r = r'} f j k) = let z : r' ≡ r = cc in names_apart (sym (one-result h (rw z at j)))
  one-result (Account.later-side-meets e h i) (Account.left-side f j k) = fixes_apart (sym (one-result i k))
  one-result (Account.later-side-meets {r = r} e h i) (Account.left-side-meets {r = r'} f j) = let z : r' ≡ r = cc in names_apart (one-result h (rw z at j))
  one-result (Account.later-side-meets e h i) (Account.later-side-meets f j k) = one-result i k

-- ---- Actions.

-- One list of what was executed, and one end.
pub record Alike (es fs : List Executed) (e f : End) : Type 0 where
  pub executed : es ≡ fs
  pub ended : e ≡ f

pub over-apart : {A : Type 0} {o : Met} → Account.over ≡ Account.met o → A
over-apart e = absurd (let z : ◌≡◌ {A = ℕ} 0 1 = cc in omega arith)

nothing-more : {o m : Met} → Account.meets o ≡ Account.meets m → Alike [] [] (Account.met o) (Account.met m)
nothing-more e = record { executed = refl; ended = cc }

module _ {X : Type 0} (S : Stores X) (d : Description) where
  pub one-course : {x : X} {w : Work} {es fs : List Executed} {e f : End} → Executes S d x w es e → Executes S d x w fs f → Alike es fs e f
  one-course Account.nothing Account.nothing = record { executed = refl; ended = refl }
  one-course (Account.one_by_one {es = es} h i) (Account.one_by_one {es = es'} j k) =
      let a = one-course h j in
      let z : es' ≡ es = sym a.executed in
      let b = one-course i (rw z at k) in
      record { executed = cc (a.executed, b.executed); ended = b.ended }
  one-course (Account.one_by_one h i) (Account.first-meets j) = over-apart (one-course h j).ended
  one-course (Account.first-meets h) (Account.one_by_one j k) = over-apart (sym (one-course h j).ended)
  one-course (Account.first-meets h) (Account.first-meets j) = one-course h j
  one-course {x} (Account.store h) (Account.store k) = let a = one-result S d x h k in record { executed = cc; ended = refl }
  one-course {x} (Account.store h) (Account.store-meets k) = fixes_apart (one-result S d x h k)
  one-course {x} (Account.store-meets h) (Account.store k) = fixes_apart (sym (one-result S d x h k))
  one-course {x} (Account.store-meets h) (Account.store-meets k) = nothing-more (one-result S d x h k)
  one-course {x} (Account.pair h) (Account.pair k) = let a = one-result S d x h k in record { executed = cc; ended = refl }
  one-course {x} (Account.pair h) (Account.pair-meets k) = fixes_apart (one-result S d x h k)
  one-course {x} (Account.pair-meets h) (Account.pair k) = fixes_apart (sym (one-result S d x h k))
  one-course {x} (Account.pair-meets h) (Account.pair-meets k) = nothing-more (one-result S d x h k)
  one-course {x} (Account.set {r = r} e h) (Account.set {r = r'} f k) =
      let z : r' ≡ r = cc in
      let a = one-result S d x h (rw z at k) in
      record { executed = cc; ended = refl }
  one-course {x} (Account.set {r = r} e h) (Account.set-meets {r = r'} f k) = let z : r' ≡ r = cc in names_apart (one-result S d x h (rw z at k))
  one-course {x} (Account.set-meets {r = r} e h) (Account.set {r = r'} f k) = let z : r' ≡ r = cc in names_apart (sym (one-result S d x h (rw z at k)))
  one-course {x} (Account.set-meets {r = r} e h) (Account.set-meets {r = r'} f k) = let z : r' ≡ r = cc in nothing-more (one-result S d x h (rw z at k))
  one-course Account.goto Account.goto = record { executed = refl; ended = refl }
  one-course Account.call Account.call = record { executed = refl; ended = refl }
  one-course Account.return Account.return = record { executed = refl; ended = refl }
  one-course (Account.performs h) (Account.performs k) = one-course h k
  one-course {x} (Account.taken {r = r} h e f i) (Account.taken {r = r'} j e' f' k) = let z : r' ≡ r = cc in one-course i (rw z at k)
  one-course {x} (Account.taken h e f i) (Account.not_taken j e') = absurd (omega (arith, number-so (one-result S d x h j)))
  one-course {x} (Account.taken h e f i) (Account.when-meets j) = worth-apart (one-result S d x h j)
  one-course {x} (Account.not_taken h e) (Account.taken j e' f' k) = absurd (omega (arith, number-so (one-result S d x h j)))
  one-course (Account.not_taken h e) (Account.not_taken j e') = record { executed = refl; ended = refl }
  one-course {x} (Account.not_taken h e) (Account.when-meets j) = worth-apart (one-result S d x h j)
  one-course {x} (Account.when-meets h) (Account.taken j e' f' k) = worth-apart (sym (one-result S d x h j))
  one-course {x} (Account.when-meets h) (Account.not_taken j e') = worth-apart (sym (one-result S d x h j))
  one-course {x} (Account.when-meets h) (Account.when-meets j) = nothing-more (one-result S d x h j)
  one-course {x} (Account.chosen-arm {k = m} {r = r} h e f i) (Account.chosen-arm {k = m'} {r = r'} j e' f' k) =
      let y : m' ≡ m = one_arm e' (rw (number-so (one-result S d x h j)) at e) in
      let z : r' ≡ r = cc in
      one-course i (rw z at k)
  one-course {x} (Account.chosen-arm h e f i) (Account.choose-meets j) = worth-apart (one-result S d x h j)
  one-course {x} (Account.choose-meets h) (Account.chosen-arm j e' f' k) = worth-apart (sym (one-result S d x h j))
  one-course {x} (Account.choose-meets h) (Account.choose-meets j) = nothing-more (one-result S d x h j)
