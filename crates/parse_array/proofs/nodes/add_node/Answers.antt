use mathlib.Core.Path.{refl}
use borrow.Author.Rules.{rules}
use Rattle.language.specs.Encode.{little}
use Rattle.image_records.proofs.WrittenNodes.{node-length}
use Rattle.parse_array.proofs.Regions.{record-written}
use Rattle.parse_array.proofs.nodes.add_node.Goals as goal

pub returns : goal.returns
unfolding little
returns c =
    record {
      room = λ {m} e. c.if-n-ge-MOST_NODES.false;
      count = λ {m} e. search rules;
      added = λ {m} e. record-written _ _ _ _ (search rules) c.if-n-ge-MOST_NODES.false (node-length _) refl c.put.ensures c.node_bytes.ensures c.put-2.ensures c.bytes.ensures;
      full = λ e. search rules;
    }
