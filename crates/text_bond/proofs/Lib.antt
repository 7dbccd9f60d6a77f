-- The laws of text_bond, a file each; its own proofs alone cite them.
mod BondTold
