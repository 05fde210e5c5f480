-- The seven lines of a job, one after the other.
use Rattle.std.proofs.Common.{ℕ, ◌≡◌, ◌∙◌, refl, arith, ap, List, length}
use Rattle.std.proofs.Math.Option.{none, some, bind}
use Rattle.search.specs.Searched.{limits_of}
use Rattle.text.specs.Bytes.{ascii}
use Rattle.text.specs.Reading.{Valued, Unkeyed}
use Rattle.text.specs.LayoutRead.{LimitAt, Unlimited}
use Rattle.weigh.specs.declared.job.Written.{Written}
use Rattle.weigh.specs.Layout.{WeighLayout, weights_line, weigh_layout}
use Rattle.weigh.specs.Read.{WeightsRead, LaidOut}

module _ (s : List ℕ) where
  pub no_left : Unkeyed s (ascii "left=") → weigh_layout 10 s ≡ none
  unfolding weigh_layout bind
  no_left h = rw (h "left=" refl)

  module _ {left p : List ℕ} (l : Valued s (ascii "left=") left p) where
    pub no_right : Unkeyed p (ascii "right=") → weigh_layout 10 s ≡ none
    unfolding weigh_layout bind
    no_right h = rw (l.parts "left=" refl) (rw (h "right=" refl))

    module _ {right q : List ℕ} (r : Valued p (ascii "right=") right q) where
      pub no_cost : Unlimited q (ascii "cost=") → weigh_layout 10 s ≡ none
      unfolding weigh_layout bind
      no_cost h = rw (l.parts "left=" refl) (rw (r.parts "right=" refl) (rw (h "cost=" refl)))

      module _ {k : ℕ} {t : List ℕ} (c : LimitAt q (ascii "cost=") k t) where
        pub no_size : Unlimited t (ascii "size=") → weigh_layout 10 s ≡ none
        unfolding weigh_layout bind
        no_size h = rw (l.parts "left=" refl) (rw (r.parts "right=" refl) (rw (c.parts "cost=" refl) (rw (h "size=" refl))))

        module _ {m : ℕ} {u : List ℕ} (z : LimitAt t (ascii "size=") m u) where
          pub no_depth : Unlimited u (ascii "depth=") → weigh_layout 10 s ≡ none
          unfolding weigh_layout bind
          no_depth h =
              rw (l.parts "left=" refl) (rw (r.parts "right=" refl) (rw (c.parts "cost=" refl) (rw (z.parts "size=" refl) (rw (h "depth=" refl)))))

          module _ {i : ℕ} {v : List ℕ} (d : LimitAt u (ascii "depth=") i v) where
            pub no_nodes : Unlimited v (ascii "nodes=") → weigh_layout 10 s ≡ none
            unfolding weigh_layout bind
            no_nodes h =
                rw (l.parts "left=" refl) (rw (r.parts "right=" refl) (rw (c.parts "cost=" refl)
                (rw (z.parts "size=" refl) (rw (d.parts "depth=" refl) (rw (h "nodes=" refl))))))

            module _ {j : ℕ} {x : List ℕ} (n : LimitAt v (ascii "nodes=") j x) where
              abbrev with_weights : List ℕ → WeighLayout
              with_weights ws =
                  record {
                    left = left;
                    right = right;
                    cost = c.number;
                    limits = record { steps = 0; size = z.number; depth = d.number; nodes = n.number };
                    weights = ws;
                  }

              by_weights : weigh_layout 10 s ≡ bind (weights_line 10 x) (λ ws. some (with_weights ws))
              unfolding weigh_layout bind
              by_weights =
                  rw (l.parts "left=" refl) (rw (r.parts "right=" refl) (rw (c.parts "cost=" refl)
                  (rw (z.parts "size=" refl) (rw (d.parts "depth=" refl) (rw (n.parts "nodes=" refl))))))

              pub no_line : weights_line 10 x ≡ none → weigh_layout 10 s ≡ none
              unfolding bind
              no_line h = by_weights ∙ rw h

              pub laid_out : {w : Written} → w.left.now ≡ left → w.right.now ≡ right → w.cost ≡ k
                  → limits_of w.limits ≡ record { steps = 0; size = m; depth = i; nodes = j } → WeightsRead (weights_line 10 x) w.weights → LaidOut s w
              unfolding bind
              laid_out {w} a b e f h =
                  record {
                    left_within = omega (arith, ap length a, l.shorter);
                    right_within = omega (arith, ap length b, l.shorter, r.shorter);
                    layout = with_weights h.numbers;
                    shown = record {
                      left = a;
                      right = b;
                      cost = e ∙ c.is;
                      limits = f ∙ (λ o. record { steps = 0; size = z.is o; depth = d.is o; nodes = n.is o });
                      weights = h.is;
                    };
                    lines = by_weights ∙ rw h.there;
                  }
