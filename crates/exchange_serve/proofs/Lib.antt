-- The laws of exchange_serve, a file each; its own proofs alone cite them.
mod Serving
