-- Lists of declarations, as the code reads them.
use mathlib.Core.List.{List, [], ◌∷◌, ◌++◌, append_assoc, append-nil}
use mathlib.Core.Path.{◌≡◌, refl, sym, ap, ◌∙◌, subst}
use Prim.Native.Nat.{ℕ, ◌-◌, ◌<◌}
use native.Mathlib.Omega.{arith}
use lib.ListN.{length}
use Rattle.parse_step.proofs.TakenWords.{on_taken, took-done}
use Rattle.parse_step.specs.declared.Reached.{Reached}
use Rattle.parse_step.specs.declared.Unread.{Unread}
use Rattle.std.specs.Prelude.{Err, Ok, Result}
use Rattle.parse_step.specs.declared.State.{State}
use Rattle.parse_step.specs.Course.{Stack, counts_of, kind_no, runs}
use Rattle.parse_step.specs.Taken.{Took}
use Rattle.parse_step.proofs.States.{state-of}
use Rattle.parse_bounds.proofs.Telling.{not-taken, through, untold}
use Rattle.parse_bounds.specs.Telling.{Tells, same}
use Rattle.language.specs.Building.{Built, with_text}
use Rattle.language.specs.Kinds.{comma}
use Rattle.language.specs.Machine.{ask}
use Rattle.language.specs.Tree.{Declaration, Text}
use Rattle.text_words.specs.declared.Word.{Word}
use Rattle.parse_facilities.proofs.Appended.{length_last}
use Rattle.parse_facilities.proofs.ListWords.{comma-taken}
use Rattle.parse_facilities.proofs.NameWords.{few-facilities}
use Rattle.parse_facilities.proofs.StoredLaws.{others_same, others-then, standing-passed, standing-same}
use Rattle.parse_facilities.specs.declared.Progress.{Progress}
use Rattle.parse_facilities.specs.Declares.{OneRead, Standing, put}
use Rattle.parse_facilities.specs.Lists.{EndRead, Ends, Listing, Lists, Mores, Ones, SomeRead, Stands, kind_in, more_in, put_all, spec_in}

-- ---- Counting them.

pub count_of : {text : List ℕ} {ds : List Declaration} {place : ℕ} {w : Word} {s : State} {work : List ℕ} → Standing text ds place w s work → s.facilities ≡ length ds
count_of st = st.listed.counted ∙ st.listed.tabled.known

put_last : (l : Listing) (ds : List Declaration) (d : Declaration) (t : Text) → put_all l (ds ++ d ∷ []) t ≡ put (kind_in l) d (put_all l ds t)
unfolding put_all
put_last l [] d t = refl
put_last l (e ∷ ds) d t = put_last l ds d (put (kind_in l) e t)

-- ---- Behind a declaration.

-- From w and s on, declarations have been read up to here.
abbrev pub Here : List ℕ → List Declaration → Listing → Word → State → Word → State → ℕ → List ℕ → Type 0
Here text ds l w s next state place work = SomeRead text ds l (ask (more_in l) ∷ []) (ask (more_in l) ∷ []) w s next state place work

module _ (text : List ℕ) (ds : List Declaration) (l : Listing) (w : Word) (s : State) where
  -- Nothing more yet.
  pub none_yet : {place : ℕ} {work : List ℕ} → Standing text ds place w s work → Here text ds l w s w s place work
  unfolding put_all
  none_yet {place} {work} st = record { trees = []; course = λ K b. refl; standing = subst (λ (v : List Declaration). Standing text v place w s work) (sym (append-nil ds)) st; others = others_same refl }

  module _ {next : Word} {state : State} {place : ℕ} {work : List ℕ} (h : Here text ds l w s next state place work) where
    pub list-ended : (kind_no next.kind ≡ comma → ⊥) → {r : Result Progress Unread} → Ends text next state place r
        → Tells text (ask (more_in l) ∷ []) same w s r (λ v. SomeRead text ds l (ask (more_in l) ∷ []) [] w s v.reached.next v.reached.state v.place work)
    list-ended n {r} f = through (f l h.standing.seen n) (λ K. K) (λ b. with_text b (put_all l h.trees b.text)) h.course read
      where
        read : (v : Progress) → EndRead text l next state place v → SomeRead text ds l (ask (more_in l) ∷ []) [] w s v.reached.next v.reached.state v.place work
        read v y = record {
          trees = h.trees;
          course = λ K b. h.course K b ∙ y.course K (with_text b (put_all l h.trees b.text));
          standing = standing-same h.standing y.state y.store y.seen;
          others = others-then h.others (others_same y.state);
        }

    module _ (k : kind_no next.kind ≡ comma) where
      to-comma : (K : Stack) (b : Built) → runs text (ask (more_in l) ∷ K) w b s ≡ on_taken text next (ask (spec_in l) ∷ ask (more_in l) ∷ K) (with_text b (put_all l h.trees b.text)) (counts_of state)
      to-comma K b = h.course K b ∙ comma-taken text next K (with_text b (put_all l h.trees b.text)) state l k

      pub comma-not : {e : Unread} → Took text next (counts_of state) state (Err e) → {Read : Progress → Type 0} → Tells text (ask (more_in l) ∷ []) same w s (Err e) Read
      comma-not t = not-taken t (λ K. ask (spec_in l) ∷ ask (more_in l) ∷ K) (λ b. with_text b (put_all l h.trees b.text)) to-comma

      module _ {a : Reached} (t : Took text next (counts_of state) state (Ok a)) where
        to-spec : (K : Stack) (b : Built) → runs text (ask (more_in l) ∷ K) w b s ≡ runs text (ask (spec_in l) ∷ ask (more_in l) ∷ K) a.next (with_text b (put_all l h.trees b.text)) a.state
        to-spec K b = to-comma K b ∙ took-done (t.done refl) h.standing.seen (ask (spec_in l) ∷ ask (more_in l) ∷ K) (with_text b (put_all l h.trees b.text))

        pub another-not : {e : Unread} {work' : List ℕ} → Ones l text a.next a.state place work work' (Err e) → {Read : Progress → Type 0} → Tells text (ask (more_in l) ∷ []) same w s (Err e) Read
        another-not f = untold (f (ds ++ h.trees) (standing-passed h.standing (t.done refl))) (λ K. ask (more_in l) ∷ K) (λ b. with_text b (put_all l h.trees b.text)) to-spec

        module _ {r : Progress} {work' : List ℕ} (f : Ones l text a.next a.state place work work' (Ok r)) where
          y : OneRead text (ds ++ h.trees) (ask (spec_in l) ∷ []) (kind_in l) a.next a.state work' r
          y = (f (ds ++ h.trees) (standing-passed h.standing (t.done refl))).done refl

          pub another : Here text ds l w s r.reached.next r.reached.state r.place work'
          another = record {
            trees = h.trees ++ y.tree ∷ [];
            course = λ K b. to-spec K b ∙ y.course (ask (more_in l) ∷ K) (with_text b (put_all l h.trees b.text))
                ∙ ap (λ (v : Text). runs text (ask (more_in l) ∷ K) r.reached.next (with_text b v) r.reached.state) (sym (put_last l h.trees y.tree b.text));
            standing = subst (λ (v : List Declaration). Standing text v r.place r.reached.next r.reached.state work') (append_assoc ds h.trees (y.tree ∷ [])) y.standing;
            others = others-then h.others (others-then (others_same (state-of (t.done refl).counts (t.done refl).kept)) y.others);
          }

          -- There is one facility more, and they are not too many.
          pub one_fewer : 257 - r.reached.state.facilities < 257 - state.facilities
          one_fewer = omega (arith, count_of h.standing, count_of y.standing, length_last (ds ++ h.trees) y.tree, few-facilities (counts_of r.reached.state) y.standing.within)

-- ---- The whole list.

module _ {text : List ℕ} (l : Listing) {w : Word} {s : State} {place : ℕ} {work work₁ : List ℕ} where
  pub list-not : {e : Unread} → Ones l text w s place work work₁ (Err e) → Lists l text w s place work work₁ (Err e)
  list-not f ds st = untold (f ds st) (λ K. ask (more_in l) ∷ K) same (λ K b. refl)

  module _ {r : Progress} (f : Ones l text w s place work work₁ (Ok r)) where
    pub list-stands : Stands text place w s work → Stands text r.place r.reached.next r.reached.state work₁
    list-stands st = let y = (f st.declared st.standing).done refl in record { declared = st.declared ++ y.tree ∷ []; standing = y.standing }

    pub list-more : {q : Result Progress Unread} {work₂ : List ℕ} → Mores l text r.reached.next r.reached.state r.place work₁ work₂ q → Lists l text w s place work work₂ q
    unfolding put_all
    list-more {q} {work₂} g ds st = through (g (ds ++ y.tree ∷ []) y.standing) (λ K. K) (λ b. with_text b (put (kind_in l) y.tree b.text)) (λ K b. y.course (ask (more_in l) ∷ K) b) read
      where
        y : OneRead text ds (ask (spec_in l) ∷ []) (kind_in l) w s work₁ r
        y = (f ds st).done refl

        read : (x : Progress) → SomeRead text (ds ++ y.tree ∷ []) l (ask (more_in l) ∷ []) [] r.reached.next r.reached.state x.reached.next x.reached.state x.place work₂
            → SomeRead text ds l (ask (spec_in l) ∷ ask (more_in l) ∷ []) [] w s x.reached.next x.reached.state x.place work₂
        read x v = record {
          trees = y.tree ∷ v.trees;
          course = λ K b. y.course (ask (more_in l) ∷ K) b ∙ v.course K (with_text b (put (kind_in l) y.tree b.text));
          standing = subst (λ (z : List Declaration). Standing text z x.place x.reached.next x.reached.state work₂) (append_assoc ds (y.tree ∷ []) v.trees) v.standing;
          others = others-then y.others v.others;
        }
