-- The machine's 3 stands at the first word with which no text of the grammar goes on, while some text goes on with the words before it; or at the end, where the words begin a text and are none.
use Rattle.std.specs.Prelude.{List, [], ◌∷◌, ◌++◌, ◌≡◌, refl, ℕ, length}
use Rattle.std.proofs.Common.{append_assoc, append-nil, ◌∙◌, ap, subst, sym, arith}
use Rattle.language.specs.Machine.{refused}
use Rattle.language.specs.declared.refusals.Refusal.TheVariants.{NoContinuation}
use Rattle.language.specs.SectionWays.{parse, parse_with}
use Rattle.language.specs.Words.{Fault, Position, Word, fault, word_at}
use Rattle.about_grammar.specs.Accepting.{Proper}
use Rattle.about_grammar.specs.Completed.{completed}
use Rattle.about_grammar.specs.Completing.{Completed, proper-on}
use Rattle.about_grammar.specs.Places.{Begins, FirstFault, IsText, NoWay, with_nothing, with-word}
use Rattle.about_grammar.specs.Refusals.{StoppedAt, nothing-legal, stopped}
use Rattle.about_grammar.specs.Sound.{sound-unbounded}

pub proper-left : (us vs : List Word) → Proper (us ++ vs) → Proper us
proper-left [] vs p = tt
proper-left (w ∷ us) vs p = (p.0, proper-left us vs p.1)

-- Some text begins with the words that the machine took.
pub begun-there : (ws : List Word) (end : ℕ) (f : Fault) → Proper ws → (s : StoppedAt ws end f) → Begins s.us
unfolding parse_with
begun-there ws end f q s = go (completed s.stack s.nice-stack s.sofar.built s.sofar.counts)
  where
    go : Completed s.stack s.sofar.built s.sofar.counts → Begins s.us
    go r = record {
      more = r.words;
      is-text = record {
        depth = length (s.us ++ r.words);
        tree = r.result.text;
        derived =
            sound-unbounded (s.us ++ r.words) 0 r.result (proper-on s.us r.words (proper-left s.us s.left (subst Proper s.split q)) r.proper)
            (s.reach-all r.words 0 ∙ r.accepted);
      };
    }

pub first-fault : (ws : List Word) (end : ℕ) (p : Position) → Proper ws → parse ws end ≡ refused (fault p NoContinuation) → FirstFault ws end p
first-fault ws end p q h =
    let s = stopped ws end (fault p NoContinuation) h in
    record { us = s.us; left = s.left; split = s.split; begun = begun-there ws end (fault p NoContinuation) q s; none = nothing-legal s.us s.reach-all s.why refl }

-- ---- It is one place, and the words are no text.

pub begins-front : (us vs : List Word) → Begins (us ++ vs) → Begins us
begins-front us vs x = record { more = vs ++ x.more; is-text = subst IsText (append_assoc us vs x.more) x.is-text }

pub no_text : {ws : List Word} {end : ℕ} {p : Position} → FirstFault ws end p → IsText ws → ⊥
no_text {end = end} {p = p} x t = go p x.left x.none (subst IsText x.split t)
  where
    go : (q : Position) (left : List Word) → NoWay x.us end left q → IsText (x.us ++ left) → ⊥
    go q left (with-word w vs n) t = n (record { more = vs; is-text = subst IsText (sym (append_assoc x.us (w ∷ []) vs)) t })
    go q left (with_nothing n) t = n (subst IsText (append-nil x.us) t)

-- Two splits of the same words.
pub data Splits (us ls vs ms : List Word) : Type 0 where
  same : us ≡ vs → ls ≡ ms → Splits us ls vs ms
  further : (w : Word) (ds : List Word) → vs ≡ us ++ w ∷ ds → ls ≡ w ∷ (ds ++ ms) → Splits us ls vs ms
  nearer : (w : Word) (ds : List Word) → us ≡ vs ++ w ∷ ds → ms ≡ w ∷ (ds ++ ls) → Splits us ls vs ms

pub splits : (us ls vs ms : List Word) → us ++ ls ≡ vs ++ ms → Splits us ls vs ms
splits [] ls [] ms e = same refl e
splits [] ls (v ∷ vs) ms e = further v vs refl e
splits (u ∷ us) ls [] ms e = nearer u us refl (sym e)
splits (u ∷ us) ls (v ∷ vs) ms e = go (cc) (splits us ls vs ms (cc))
  where
    go : u ≡ v → Splits us ls vs ms → Splits (u ∷ us) ls (v ∷ vs) ms
    go q (same a b) = same (cc) b
    go q (further w ds a b) = further w ds (cc) b
    go q (nearer w ds a b) = nearer w ds (cc) b

-- Where words that begin a text go on with a word, no fault stands at it.
pub begun-past : {us left : List Word} {end : ℕ} {p : Position} (w : Word) (ds rest : List Word) → Begins (us ++ w ∷ ds) → NoWay us end left p → left ≡ w ∷ rest → ⊥
begun-past {us} w ds rest b (with-word v vs n) e = n (rw (let q : v ≡ w = cc in q) (begins-front (us ++ w ∷ []) ds (subst Begins (sym (append_assoc us (w ∷ []) ds)) b)))
begun-past w ds rest b (with_nothing n) e = absurd (let z : ◌≡◌ {A = ℕ} 0 1 = cc in omega arith)

same_place : {us vs ls ms : List Word} {end : ℕ} {p q : Position} → NoWay us end ls p → NoWay vs end ms q → ls ≡ ms → p ≡ q
same_place (with-word w ls n) (with-word v ms m) e = ap word_at (let q : w ≡ v = cc in q)
same_place (with-word w ls n) (with_nothing m) e = absurd (let z : ◌≡◌ {A = ℕ} 0 1 = cc in omega arith)
same_place (with_nothing n) (with-word v ms m) e = absurd (let z : ◌≡◌ {A = ℕ} 0 1 = cc in omega arith)
same_place (with_nothing n) (with_nothing m) e = refl

pub first_one : {ws : List Word} {end : ℕ} {p q : Position} → FirstFault ws end p → FirstFault ws end q → p ≡ q
first_one {ws} {end} {p} {q} x y = go (splits x.us x.left y.us y.left (sym x.split ∙ y.split))
  where
    go : Splits x.us x.left y.us y.left → p ≡ q
    go (same a b) = same_place x.none y.none b
    go (further w ds a b) = absurd (begun-past w ds (ds ++ y.left) (subst Begins a y.begun) x.none b)
    go (nearer w ds a b) = absurd (begun-past w ds (ds ++ x.left) (subst Begins a x.begun) y.none b)
