-- What a walk over the keys of a document has gathered.
use Rattle.std.proofs.Common.{◌≡◌, ℕ, List, [], ◌++◌, map, Some, codes, ap, sym, ◌∙◌, append_assoc}
use Rattle.toml.specs.Data.{Data, Items}
use Rattle.machine_desc.specs.declared.fault.Faulty.{Faulty}
use Rattle.machine_desc.specs.declared.keys.Key.{Key}
use Rattle.machine_desc.specs.declared.keys.Wanted.TheVariants.{Table}
use Rattle.machine_desc.specs.Keys.{Row, rows, region_rows, row_of}
use Rattle.machine_desc.specs.Faults.{fault_in, value_fault}
use Rattle.machine_desc.specs.Document.{gathered, gathered_items, dotted, listed, region_key, integer_in, elements, row_faults, inner_faults, element_faults, faults, unknown, unknown_in, inner_unknown, element_unknown}
use Rattle.machine_desc.proofs.Gathered.{gathered_map}

pub faults_from : (d : Data) (ks : List Key) (ds : Items) (now new : List Faulty) → map row_of ks ≡ rows → ds ≡ elements d
    → now ≡ gathered (λ key. row_faults d (row_of key)) ks → new ≡ now ++ gathered_items element_faults 0 ds → new ≡ faults d
unfolding faults
faults_from d ks ds now new keys regions past step =
    let walked : now ≡ gathered (row_faults d) rows = past ∙ sym (gathered_map (row_faults d) row_of ks) ∙ ap (gathered (row_faults d)) keys in
    step ∙ ap (λ (xs : List Faulty). xs ++ gathered_items element_faults 0 ds) walked ∙ ap (λ (es : Items). gathered (row_faults d) rows ++ gathered_items element_faults 0 es) regions

pub region_from : (i : ℕ) (d : Data) (key prefix : List ℕ) (ks : List Key) (old now new : List Faulty) → key ≡ region_key i → prefix ≡ region_key i
    → map row_of ks ≡ region_rows (integer_in (codes "first") d)
    → now ≡ old ++ listed key (value_fault Table d) → new ≡ now ++ gathered (λ k. listed (dotted prefix k.name.now) (fault_in (row_of k) (Some d))) ks
    → new ≡ old ++ element_faults i d
region_from i d key prefix ks old now new named prefixed keys past step =
    let inside : List ℕ → Row → List Faulty = λ k r. listed (dotted k r.name) (fault_in r (Some d)) in
    let walked : gathered (λ k. inside prefix (row_of k)) ks ≡ inner_faults prefix d = sym (gathered_map (inside prefix) row_of ks) ∙ ap (gathered (inside prefix)) keys in
    step ∙ ap (λ (xs : List Faulty). xs ++ gathered (λ k. inside prefix (row_of k)) ks) past ∙ append_assoc old (listed key (value_fault Table d)) (gathered (λ k. inside prefix (row_of k)) ks)
    ∙ ap (λ (xs : List Faulty). old ++ (listed key (value_fault Table d) ++ xs)) walked
    ∙ ap (λ (k : List ℕ). old ++ (listed k (value_fault Table d) ++ inner_faults prefix d)) named
    ∙ ap (λ (k : List ℕ). old ++ (listed (region_key i) (value_fault Table d) ++ inner_faults k d)) prefixed

pub unknown_from : (d : Data) (ks ls : List Key) (ds : Items) (none top inner all : List (List ℕ)) → map row_of ks ≡ rows → map row_of ls ≡ rows → ds ≡ elements d
    → none ≡ [] → top ≡ none ++ unknown_in [] [] (map row_of ks) d → inner ≡ top ++ gathered (λ key. inner_unknown d key.name.now key.wanted) ls → all ≡ inner ++ gathered_items element_unknown 0 ds
    → all ≡ unknown d
unfolding unknown
unknown_from d ks ls ds none top inner all keys again regions empty first second third =
    let f : Row → List (List ℕ) = λ r. inner_unknown d r.name r.wanted in
    let at_top : top ≡ unknown_in [] [] rows d = first ∙ ap (λ (xs : List (List ℕ)). xs ++ unknown_in [] [] (map row_of ks) d) empty ∙ ap (λ (rs : List Row). unknown_in [] [] rs d) keys in
    let walked : gathered (λ key. f (row_of key)) ls ≡ gathered f rows = sym (gathered_map f row_of ls) ∙ ap (gathered f) again in
    third ∙ ap (λ (es : Items). inner ++ gathered_items element_unknown 0 es) regions
    ∙ ap (λ (xs : List (List ℕ)). xs ++ gathered_items element_unknown 0 (elements d)) (second ∙ ap (λ (xs : List (List ℕ)). xs ++ gathered (λ key. f (row_of key)) ls) at_top ∙ ap (λ (xs : List (List ℕ)). unknown_in [] [] rows d ++ xs) walked)
    ∙ append_assoc (unknown_in [] [] rows d) (gathered f rows) (gathered_items element_unknown 0 (elements d))
