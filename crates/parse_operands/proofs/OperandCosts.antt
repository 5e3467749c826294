-- What operands that hold no expression cost: a constant counts one word and takes at most six records, a reference takes one.
use mathlib.Core.List.{List, []}
use mathlib.Core.Path.{◌≡◌, refl, sym, subst}
use Prim.Native.Nat.{ℕ, suc, ◌≤◌}
use native.Mathlib.Omega.{arith}
use Rattle.language.specs.Describe.{constant_nodes, constant_size}
use Rattle.language.specs.Kinds.{a_constant}
use Rattle.language.specs.Naming.{Scope, no_state}
use Rattle.value_operators.specs.Meaning.{valued}
use Rattle.text_words.specs.declared.Word.{Word}
use Rattle.text_words.specs.Meaning.{positioned}
use Rattle.parse_tables.specs.Names.{facility_names}
use Rattle.parse_step.specs.declared.State.{State}
use Rattle.parse_step.specs.Course.{Seen, counts5, kind_no}
use Rattle.parse_step.specs.Gained.{Gained, Written}
use Rattle.parse_step.specs.Pays.{Spends}
use Rattle.parse_step.specs.Taken.{Took, Went}
use Rattle.parse_step.proofs.Narrow.{few-records, narrow}
use Rattle.parse_step.proofs.Paying.{counted-comes, gained-spends, spent, spent_seen, went-pays, written-spends}
use Rattle.parse_step.specs.Answers.{Answer}
use Rattle.parse_step.specs.declared.Reached.{Reached}
use Rattle.std.specs.Prelude.{Ok}

module _ {w : Word} {s : State} {t r : Answer} {work work' : List ℕ} {n : ℕ} where
  pub constant-spends : {text : List ℕ} → kind_no w.kind ≡ a_constant → Took text w (counts5 s (suc s.counted) n) s t → {t' : Reached} → t ≡ Ok t'
      → Written (constant_nodes (valued w.value) (positioned w.at)) (constant_size (valued w.value)) t'.next t'.state work work' r → Spends text 0 w s r
  constant-spends {text} e k d y = spent_seen (λ z. spent (counted-comes k d) (written-spends y (few-records (valued w.value) (narrow text w z e))) (omega arith))

  pub counting-spends : {text : List ℕ} {next : Word} → w.value.length ≤ 256 → Went w next (counts5 s (suc s.counted) n) s t → {t' : Reached} → t ≡ Ok t'
      → Written (constant_nodes (valued w.value) (positioned w.at)) (constant_size (valued w.value)) t'.next t'.state work work' r → Spends text 0 next s r
  counting-spends {text} h k d y =
      spent (λ z. record { pays = went-pays k d; seen = subst (Seen text) (sym (k.done d).word) z }) (written-spends y (few-records (valued w.value) h)) (omega arith)

-- Whatever the scope is, a reference takes one record.
pub adds-spends : {B P : Scope → List ℕ} {text : List ℕ} {next : Word} {s : State} {work work' : List ℕ} {r : Answer}
    → ((sc : Scope) → sc.facilities ≡ facility_names text work s.known → Gained next s (B sc) (P sc) work work' r) → Spends text 2 next s r
adds-spends {text = text} {s = s} {work = work} a = gained-spends (a (record { facilities = facility_names text work s.known; operations = []; state_named = no_state }) refl)
