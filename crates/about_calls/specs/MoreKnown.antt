-- What has a length where some facilities may be named has it where more may be. Assumes nothing.
use Rattle.std.proofs.Common.{arith}
use Rattle.std.specs.Prelude.{ℕ, ◌≤◌, ◌<◌}
use Rattle.language.specs.Description.{Description}
use Rattle.about_rules.specs.HasLength as H
use Rattle.about_rules.specs.HasLength.{Long, Notion}

below_more : {f known more : ℕ} → known ≤ more → f < known → f < more
below_more h i = omega arith

pub more-known : {d : Description} {known more n l : ℕ} {s : Notion} → known ≤ more → Long d known s n l → Long d more s n l
more-known h (H.constant e s m) = H.constant e s m
more-known h (H.sum e a b m) = H.sum e (more-known h a) (more-known h b) m
more-known h (H.difference e a b m) = H.difference e (more-known h a) (more-known h b) m
more-known h (H.negation e a m) = H.negation e (more-known h a) m
more-known h (H.relation r e a b) = H.relation r e (more-known h a) (more-known h b)
more-known h (H.complement e a) = H.complement e (more-known h a)
more-known h (H.logical r e a b) = H.logical r e (more-known h a) (more-known h b)
more-known h (H.joined e a b m) = H.joined e (more-known h a) (more-known h b) m
more-known h (H.extended e a s m) = H.extended e (more-known h a) s m
more-known h (H.substring r e a s m) = H.substring r e (more-known h a) s m
more-known h (H.reduced r e a) = H.reduced r e (more-known h a)
more-known h (H.counted e a) = H.counted e (more-known h a)
more-known h (H.if-else q i j e a) = H.if-else q i j (more-known h e) (more-known h a)
more-known h (H.case q i j e m a) = H.case q i j (more-known h e) m (more-known h a)
more-known h (H.first q i e) = H.first q i (more-known h e)
more-known h (H.next q i j a e) = H.next q i j (more-known h a) (more-known h e)
more-known h (H.whole q i f m) = H.whole q i (more-known h f) m
more-known h (H.bit q i k f e b) = H.bit q i k (more-known h f) (more-known h e) b
more-known h (H.part q k f x m) = H.part q k (more-known h f) x m
more-known h (H.word q i k f e b m) = H.word q i k (more-known h f) (more-known h e) b m
more-known h (H.word-bit q i j k f e b g c) = H.word-bit q i j k (more-known h f) (more-known h e) b (more-known h g) c
more-known h (H.word-part q i k f e b x m) = H.word-part q i k (more-known h f) (more-known h e) b x m
more-known h (H.stored i c) = H.stored (below_more h i) c
more-known h (H.computed i c e) = H.computed (below_more h i) c e
