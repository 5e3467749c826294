use mathlib.Core.List.{List}
use mathlib.Core.Path.{◌≡◌, sym, ap, ◌∙◌}
use Prim.Native.Nat.{ℕ}
use native.Mathlib.Omega.{arith}
use lib.ListN.{drop, get_or, length, take}
use Rattle.language.specs.RecordBytes.{fours}
use Rattle.language.specs.Scan.{same}
use Rattle.image_sections.proofs.HeaderLaws.{header-bytes, right-other, right-same, right-short, total_first}
use Rattle.image_sections.specs.Header.{counts_in, header_numbers, total_of}
use Rattle.image_sections.specs.declared.header.Counts.{Counts}
use Rattle.image_sections.proofs.header.header_right.Goals as goal
use Rattle.image_sections.proofs.header.header_right.Goals.{then-image-total-via-then-image-total, then-image-total-via-else-image-total+then-four-total}

pub returns-then-image-total : goal.returns-then-image-total
returns-then-image-total c =
    let s = c.args.image.now in
    let e : get_or c.header_numbers.result 0 0 ≡ total_of (counts_in s) =
    ap (λ (l : List ℕ). get_or l 0 0) (c.header_numbers.ensures ∙ ap header_numbers c.counts_at-c.ensures) ∙ total_first (counts_in s) in
    elim c.then-image-total.branch [
      | then-image-total-via-then-image-total w ↦ sym (right-short s (omega arith))
      | then-image-total-via-else-image-total+then-four-total w ↦ sym (right-other s (omega arith) (λ q. w.if-four-total.true (w.four.ensures ∙ q ∙ sym e)))
    ]

pub returns : goal.returns
returns c =
    let s = c.args.image.now in
    let k = counts_in s in
    let e : get_or c.header_numbers.result 0 0 ≡ total_of k =
    ap (λ (l : List ℕ). get_or l 0 0) (c.header_numbers.ensures ∙ ap header_numbers c.counts_at-c.ensures) ∙ total_first k in
    let g : c.header_bytes.result ≡ fours (header_numbers k) = c.header_bytes.ensures ∙ ap (λ (x : Counts). fours (header_numbers x)) c.counts_at-c.ensures in
    c.stand.ensures ∙ ap (λ (w : List ℕ). same (take (length w) (drop 0 s)) w) g
    ∙ ap (λ (n : ℕ). same (take n (drop 0 s)) (fours (header_numbers k))) (header-bytes k)
    ∙ sym (right-same s (omega (arith, c.if-image-total.false)) (sym c.four.ensures ∙ c.if-four-total.false ∙ e))
