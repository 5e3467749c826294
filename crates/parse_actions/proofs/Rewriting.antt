-- Records written again.
use mathlib.Core.List.{List}
use mathlib.Core.Path.{◌≡◌, ap, ◌∙◌, subst}
use Prim.Native.Nat.{ℕ, ◌-◌, ◌<◌}
use lib.ListN.{length}
use Rattle.language.specs.Description as D
use Rattle.language.specs.Encode.{action_bytes}
use Rattle.judge_records.specs.Noted.{place_bytes}
use Rattle.parse_tables.proofs.OtherRecords.{place-length}
use Rattle.parse_tables.specs.declared.Table.TheVariants as Tb
use Rattle.parse_tables.specs.Rows.{Wrote}
use Rattle.text_words.specs.declared.Position.{Position}
use Rattle.text_words.specs.Meaning.{positioned}
use Rattle.parse_array.specs.Layout.{most_actions}
use Rattle.parse_actions.specs.Lists.{OneBranch}

pub again : {n : ℕ} {a a' : D.Action} {w w' : List ℕ} → a ≡ a' → (n < most_actions → Wrote Tb.Actions n (action_bytes a) w w') → n < most_actions → Wrote Tb.Actions n (action_bytes a') w w'
again {n} {w = w} {w'} e f h = subst (λ (v : D.Action). Wrote Tb.Actions n (action_bytes v) w w') e (f h)

pub one-branch : {acts arm condition count k m : ℕ} {at : Position} {ps w w₁ w₂ : List ℕ} → k ≡ condition → m ≡ count - acts - 1 → (acts < most_actions → Wrote Tb.Actions acts (action_bytes (D.when k m)) w w₁)
    → ps ≡ place_bytes 0 (positioned at) → (length ps ≡ 2 → arm < most_actions → Wrote Tb.ActionPlaces arm ps w₁ w₂) → acts < most_actions → arm < most_actions → OneBranch acts arm condition count at w w₂
one-branch {acts} {arm} {condition} {count} {m = m} {at = at} {w₁ = w₁} {w₂} d e f p g h k = record {
  between = w₁;
  again = again (ap (λ (v : ℕ). D.when v m) d ∙ ap (D.when condition) e) f h;
  place = subst (λ (v : List ℕ). Wrote Tb.ActionPlaces arm v w₁ w₂) p (g (ap length p ∙ place-length 0 (positioned at)) k);
}
