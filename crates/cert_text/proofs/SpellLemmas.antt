-- Texts that are appended part by part.
use Rattle.std.proofs.Common.{◌≡◌, ℕ, List, [], ◌∷◌, ◌++◌, length, map, sym, ◌∙◌, ap, append_assoc, append-nil}
use Rattle.std.specs.Prelude.{codes}
use Rattle.std.proofs.lemmas.Grind.{flat_map-append}
use Rattle.wx_text.specs.Decimal.{decimal}
use Rattle.cert_lines.specs.declared.kind.Version.TheVariants.{Two}
use Rattle.cert_items.specs.declared.item.Item.{Item}
use Rattle.cert_items.specs.declared.item.Item.TheVariants as item
use Rattle.cert_text.specs.declared.certificate.CertVector.{CertVector}
use Rattle.cert_text.specs.declared.certificate.Charge.{Charge}
use Rattle.cert_text.specs.declared.certificate.TotalPrice.{TotalPrice}
use Rattle.cert_text.specs.declared.certificate.Certificate.{Certificate}
use Rattle.cert_text.specs.Written.{line_text, text_of, listed_item, node_items, charge_item, multiplier_items, total_item, items_of}

pub head_text : (old out : List ℕ) (count : ℕ) → out ≡ old ++ (codes "wx-cert 2" ++ 10 ∷ codes "vectors") → out ++ (32 ∷ decimal count ++ 10 ∷ []) ≡ old ++ (line_text (item.Head Two) ++ line_text (item.Count count))
head_text old out count e =
    let front = codes "wx-cert 2" ++ 10 ∷ codes "vectors" in
    let tail = 32 ∷ decimal count ++ 10 ∷ [] in
    ap (λ t. t ++ tail) e ∙ append_assoc old front tail ∙ ap (λ d. old ++ (front ++ (32 ∷ (d ++ 10 ∷ [])))) (sym (append-nil (decimal count)))

pub multiplier_text : (old out behind : List ℕ) (number amount : ℕ) → out ≡ old ++ codes "multiplier " → behind ≡ out ++ decimal number → behind ++ (32 ∷ decimal amount ++ 10 ∷ []) ≡ old ++ line_text (item.Multiplier number amount)
multiplier_text old out behind number amount e h =
    let name = codes "multiplier " in
    let tail = 32 ∷ decimal amount ++ 10 ∷ [] in
    ap (λ t. t ++ tail) (h ∙ ap (λ t. t ++ decimal number) e) ∙ append_assoc (old ++ name) (decimal number) tail ∙ append_assoc old name (decimal number ++ tail)
    ∙ ap (λ t. old ++ (name ++ t)) (ap (λ d. decimal number ++ (32 ∷ (d ++ 10 ∷ []))) (sym (append-nil (decimal amount))) ∙ sym (append_assoc (decimal number) (32 ∷ (decimal amount ++ [])) (10 ∷ [])))

-- what the lines of a certificate are, block by block
blocks_text : (vectors : List (List ℕ)) (c : Certificate) → text_of (items_of vectors c)
    ≡ (line_text (item.Head Two) ++ line_text (item.Count (length vectors))) ++ (text_of (map listed_item vectors) ++ (text_of (node_items vectors 0 c.families) ++ (text_of (map charge_item c.charges)
    ++ (text_of (multiplier_items 0 c.multipliers) ++ (text_of (map total_item c.totals) ++ (line_text (item.Bound c.bound) ++ line_text item.End))))))
blocks_text vectors c =
    let ending : List Item = item.Bound c.bound ∷ item.End ∷ [] in
    let t : List Item = map total_item c.totals in
    let m : List Item = multiplier_items 0 c.multipliers in
    let k : List Item = map charge_item c.charges in
    let n : List Item = node_items vectors 0 c.families in
    let l : List Item = map listed_item vectors in
    let head = line_text (item.Head Two) in
    let count = line_text (item.Count (length vectors)) in
    ap (λ x. head ++ (count ++ x)) (flat_map-append line_text l (n ++ (k ++ (m ++ (t ++ ending))))
    ∙ ap (λ x. text_of l ++ x) (flat_map-append line_text n (k ++ (m ++ (t ++ ending)))
    ∙ ap (λ x. text_of n ++ x) (flat_map-append line_text k (m ++ (t ++ ending))
    ∙ ap (λ x. text_of k ++ x) (flat_map-append line_text m (t ++ ending)
    ∙ ap (λ x. text_of m ++ x) (flat_map-append line_text t ending
    ∙ ap (λ x. text_of t ++ (line_text (item.Bound c.bound) ++ x)) (append-nil (line_text item.End)))))))
    ∙ sym (append_assoc head count (text_of l ++ (text_of n ++ (text_of k ++ (text_of m ++ (text_of t ++ (line_text (item.Bound c.bound) ++ line_text item.End)))))))

-- seven texts behind one another
seven : (old a b c d e f g : List ℕ) → ((((((old ++ a) ++ b) ++ c) ++ d) ++ e) ++ f) ++ g ≡ old ++ (a ++ (b ++ (c ++ (d ++ (e ++ (f ++ g))))))
seven old a b c d e f g =
    append_assoc (((((old ++ a) ++ b) ++ c) ++ d) ++ e) f g ∙ append_assoc ((((old ++ a) ++ b) ++ c) ++ d) e (f ++ g) ∙ append_assoc (((old ++ a) ++ b) ++ c) d (e ++ (f ++ g))
    ∙ append_assoc ((old ++ a) ++ b) c (d ++ (e ++ (f ++ g))) ∙ append_assoc (old ++ a) b (c ++ (d ++ (e ++ (f ++ g)))) ∙ append_assoc old a (b ++ (c ++ (d ++ (e ++ (f ++ g)))))

pub lines_text : (old o1 o2 o3 o4 o5 o6 : List ℕ) (vectors listed : List (List ℕ)) (count : ℕ) (c : Certificate) (families : List (List CertVector)) (charges : List Charge) (multipliers : List ℕ) (totals : List TotalPrice)
    → count ≡ length vectors → listed ≡ vectors → families ≡ c.families → charges ≡ c.charges → multipliers ≡ c.multipliers → totals ≡ c.totals
    → o1 ≡ old ++ (line_text (item.Head Two) ++ line_text (item.Count count)) → o2 ≡ o1 ++ text_of (map listed_item listed) → o3 ≡ o2 ++ text_of (node_items vectors 0 families) → o4 ≡ o3 ++ text_of (map charge_item charges)
    → o5 ≡ o4 ++ text_of (multiplier_items 0 multipliers) → o6 ≡ o5 ++ text_of (map total_item totals)
    → o6 ++ (line_text (item.Bound c.bound) ++ line_text item.End) ≡ old ++ text_of (items_of vectors c)
lines_text old o1 o2 o3 o4 o5 o6 vectors listed count c families charges multipliers totals ne le fe ke me te e1 e2 e3 e4 e5 e6 =
    let a = line_text (item.Head Two) ++ line_text (item.Count (length vectors)) in
    let b = text_of (map listed_item vectors) in
    let n = text_of (node_items vectors 0 c.families) in
    let k = text_of (map charge_item c.charges) in
    let m = text_of (multiplier_items 0 c.multipliers) in
    let t = text_of (map total_item c.totals) in
    let g = line_text (item.Bound c.bound) ++ line_text item.End in
    let h1 : o1 ≡ old ++ a = e1 ∙ ap (λ n. old ++ (line_text (item.Head Two) ++ line_text (item.Count n))) ne in
    let h2 : o2 ≡ (old ++ a) ++ b = e2 ∙ ap (λ x. o1 ++ text_of (map listed_item x)) le ∙ ap (λ x. x ++ b) h1 in
    let h3 : o3 ≡ ((old ++ a) ++ b) ++ n = e3 ∙ ap (λ x. o2 ++ text_of (node_items vectors 0 x)) fe ∙ ap (λ x. x ++ n) h2 in
    let h4 : o4 ≡ (((old ++ a) ++ b) ++ n) ++ k = e4 ∙ ap (λ x. o3 ++ text_of (map charge_item x)) ke ∙ ap (λ x. x ++ k) h3 in
    let h5 : o5 ≡ ((((old ++ a) ++ b) ++ n) ++ k) ++ m = e5 ∙ ap (λ x. o4 ++ text_of (multiplier_items 0 x)) me ∙ ap (λ x. x ++ m) h4 in
    let h6 : o6 ≡ (((((old ++ a) ++ b) ++ n) ++ k) ++ m) ++ t = e6 ∙ ap (λ x. o5 ++ text_of (map total_item x)) te ∙ ap (λ x. x ++ t) h5 in
    ap (λ x. x ++ g) h6 ∙ seven old a b n k m t g ∙ ap (λ x. old ++ x) (sym (blocks_text vectors c))
