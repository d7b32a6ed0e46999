mod Listing
mod Opened
mod Taking
mod OpenForEvents
